-- What holds of the row of a step that is done in a heap, by the word found.
use Rattle.std.specs.Prelude.{ℕ, ◌≡◌, ◌+◌, ◌≤◌, List, Some}
use Rattle.sh_word.specs.Fields.{fields_of}
use Rattle.sh_shape.specs.Shape.{Numbers}
use Rattle.sh_shape.specs.Places.{IsPlace}
use Rattle.sh_shape.specs.declared.places.Place.{Place}
use Rattle.sh_shape.specs.declared.places.Place.TheVariants.{State, PageLink, Bell}
use Rattle.sh_slots.specs.declared.reply.Reply.TheVariants.{Insert}
use Rattle.sh_step.specs.Operations.{StoresWord}
use Rattle.sh_step.specs.Plans.{Plan, heap_pages}
use Rattle.sh_step.specs.Rows.{Row}

-- the words of bells and of pages' links name pages of the heap
abbrev pub WordFits : Plan → Place → ℕ → Type 0
WordFits plan (Bell k) n = n ≤ heap_pages plan + 1
WordFits plan (PageLink q) n = n ≤ heap_pages plan + 1
WordFits plan _ n = Unit {0}

-- Its place is one of the shape, what it stores is a word, and a key that it issues names its slot in the generation
-- found
pub record RowFits (shape : Numbers) (plan : Plan) (r : Row) (n : ℕ) : Type 0 where
  pub place : IsPlace shape r.place
  pub stores : StoresWord r.operation
  pub word : WordFits plan r.place n
  pub issues : (k : ℕ) (v : List ℕ) (q s : ℕ) → r.reply n ≡ Some (Insert k v) → r.place ≡ State q s → plan.keys.unpack k
      ≡ Some (record { page = q; slot = s; generation = (fields_of n).generation })
