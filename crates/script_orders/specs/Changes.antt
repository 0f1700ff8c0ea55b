-- Words that are not as the lines begin.
use Rattle.std.specs.Prelude.{ℕ, ◌≡◌, ◌≢◌, ◌+◌, ◌≤◌, ◌==◌, cond, nat_lt, List, [], ◌∷◌, ◌++◌}
use Rattle.std.specs.List.{All, filter}
use Rattle.sh_shape.specs.declared.places.Place.{Place}
use Rattle.sh_shape.specs.Places.{IsPlace, number}
use Rattle.sh_shape.specs.Shape.{Numbers}
use Rattle.sh_step.specs.declared.action.Event.{Event}
use Rattle.sh_step.specs.Plans.{Plan}
use Rattle.sh_core.specs.Words.{Words, read}
use Rattle.sh_core.specs.Worlds.{World, step}
use Rattle.script_orders.specs.declared.changes.Change.{Change}

-- the word of this number by the changes, if it was this one before them
abbrev pub word_in : List Change → (n was : ℕ) → ℕ
word_in [] n was = was
word_in (c ∷ cs) n was = cond (c.number == n) c.word (word_in cs n was)

-- the change of one word, if it is another one than as the lines begin
abbrev pub changes_of : (n opening word : ℕ) → List Change
changes_of n opening word = cond (word == opening) [] (record { number = n; word = word } ∷ [])

-- the changes with that of one word in its place
abbrev pub changes_with : List Change → (n opening word : ℕ) → List Change
changes_with cs n opening word = (filter (λ (c : Change). nat_lt c.number n) cs ++ changes_of n opening word)
    ++ filter (λ (c : Change). nat_lt n c.number) cs

-- its number is that of a place, where the word was another one
pub record IsChange (shape : Numbers) (before : Words) (c : Change) : Type 0 where
  pub place : Place
  pub within : IsPlace shape place
  pub at : number shape place ≡ c.number
  pub other : c.word ≢ read before place

-- their numbers ascend, from this one on
abbrev pub Ascend : (from : ℕ) → List Change → Type 0
Ascend from [] = Unit {0}
Ascend from (c ∷ cs) = (from ≤ c.number) × Ascend (c.number + 1) cs

-- the words are those before with these changes, in the order of their numbers
pub record HasChanges (shape : Numbers) (changes : List Change) (before after : Words) : Type 0 where
  pub at : (p : Place) → IsPlace shape p → word_in changes (number shape p) (read before p) ≡ read after p
  pub ascend : Ascend 0 changes
  pub each : All (IsChange shape before) changes

-- the event's step leaves this word at this number, and the others as they were
abbrev pub Leaves : Numbers → Plan → World → Event → (touched left : ℕ) → Type 0
Leaves shape plan w e touched left = (p : Place) → IsPlace shape p
    → read (step plan w e).words p ≡ cond (number shape p == touched) left (read w.words p)
