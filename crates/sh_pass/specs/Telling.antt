-- What a call says of the key that it ended.
use Rattle.std.specs.Prelude.{◌≡◌, ℕ, Bool, true, false, cond, List, [], ◌∷◌, Option, Some, None, Result}
use Rattle.sh_key.specs.Layout.{Layout}
use Rattle.sh_slots.specs.declared.hand.Hand.TheVariants.{Finishing}
use Rattle.sh_slots.specs.declared.hand.Sight.{Sight}
use Rattle.sh_slots.specs.declared.hand.SlotRef.{SlotRef}
use Rattle.sh_slots.specs.Slots.{name_at, value_seen}
use Rattle.sh_step.specs.Moves.{place_named}
use Rattle.sh_step.specs.Plans.{plan_of}
use Rattle.sh_step.specs.Rows.{hand, is_read}
use Rattle.sh_value.specs.declared.hold.Hold.{Hold}
use Rattle.sh_value.specs.declared.refusal.Refusal.{Refusal}
use Rattle.sh_history.specs.declared.entry.Entry.{Entry}
use Rattle.sh_history.specs.History.{value_of, is_removed}
use Rattle.sh_core.specs.KeyEnds.{Ending}
use Rattle.sh_table.specs.Ended.{EndsJust}
use Rattle.sh_table.specs.Tales.{IsTale}
use Rattle.sh_table.specs.declared.view.View.{View}
use Rattle.sh_pass.specs.Growing.{Grows}
use Rattle.sh_pass.specs.Passes.{Caller, GetDoesWithin, RemoveDoesWithin, ReleaseDoesWithin}

-- how many loads more an end may take: class, length and sixteen words, if the room asks for words
abbrev pub words_asked : Bool → ℕ
words_asked asks = cond asks 18 0

-- ---- what a caller learns

-- Of all keys just this one ended in the call, once. In a history of the caller's tale it was inserted with this value,
-- and removed
pub record EndsKey (layout : Layout) (key : ℕ) (value : List ℕ) (v w : View) : Type 0 where
  pub ending : Ending
  pub named : place_named (plan_of layout v.shape) key ≡ Some ending.name
  pub just : EndsJust layout (ending ∷ []) v w
  pub history : List Entry
  pub tale : IsTale layout w history
  pub inserted : value_of history key ≡ Some value
  pub removed : is_removed history key ≡ true

-- a room that asks for words took these, and another is as it was
abbrev pub TookIfAsked : {M : Type 0} → Bool → (takes : M → List ℕ → M → Type 0) → (before : M) → List ℕ → (after : M)
    → Type 0
TookIfAsked true takes before words after = takes before words after
TookIfAsked false takes before words after = after ≡ before

-- the call says which key it ended; it says none just if it ended none, and then the room is as it was
abbrev pub TellsEnd : {M : Type 0} → Bool → (takes : M → List ℕ → M → Type 0) → Layout → Option ℕ → (before after : M)
    → View → View → Type 0
TellsEnd asks takes layout None before after v w = EndsJust layout [] v w × (after ≡ before)
TellsEnd asks takes layout (Some key) before after v w = (value : List ℕ) × EndsKey layout key value v w
    × TookIfAsked asks takes before value after

-- a call did what the plain one does, and says which key it ended
abbrev pub GetTells : {M : Type 0} → Bool → (takes : M → List ℕ → M → Type 0) → Layout → ℕ → (before : M) → Caller
    → Result Hold Refusal × Option ℕ → (after : M) → Caller → Type 0
GetTells asks takes layout key before v answer after w = GetDoesWithin (words_asked asks) layout key v answer.0 w
    × TellsEnd asks takes layout answer.1 before after v.view w.view

abbrev pub RemoveTells : {M : Type 0} → Bool → (takes : M → List ℕ → M → Type 0) → Layout → ℕ → (before : M) → Caller
    → Result (Unit {0}) Refusal × Option ℕ → (after : M) → Caller → Type 0
RemoveTells asks takes layout key before v answer after w = RemoveDoesWithin (words_asked asks) layout key v answer.0 w
    × TellsEnd asks takes layout answer.1 before after v.view w.view

abbrev pub ReleaseTells : {M : Type 0} → Bool → (takes : M → List ℕ → M → Type 0) → Layout → ℕ → (before : M) → Caller
    → Result (Unit {0}) Refusal × Option ℕ → (after : M) → Caller → Type 0
ReleaseTells asks takes layout key before v answer after w =
    ReleaseDoesWithin (words_asked asks) layout key v answer.0 w
    × TellsEnd asks takes layout answer.1 before after v.view w.view

-- ---- what the steps of a call show

-- a room that asks for words took those that were read, which are all
abbrev pub TookRead : {M : Type 0} → Bool → (takes : M → List ℕ → M → Type 0) → Ending → (before after : M) → Type 0
TookRead true takes e before after = (is_read e.name e.sight ≡ true) × takes before (value_seen e.sight) after
TookRead false takes e before after = after ≡ before

-- steps of which the last is a Finish of this generation, which found the marked word or another one
abbrev pub FinishTells : {M : Type 0} → Bool → (takes : M → List ℕ → M → Type 0) → Layout → SlotRef → (g : ℕ)
    → (found : Bool) → (before after : M) → View → View → Type 0
FinishTells asks takes layout x g true before after v w = (s : Sight)
    × EndsJust layout (record { name = name_at x g; sight = s } ∷ []) v w
    × TookRead asks takes (record { name = name_at x g; sight = s }) before after
FinishTells asks takes layout x g false before after v w = EndsJust layout [] v w × (after ≡ before)

-- steps that ended this key, or none
abbrev pub StepsTell : {M : Type 0} → Bool → (takes : M → List ℕ → M → Type 0) → Layout → Option ℕ → (before after : M)
    → View → View → Type 0
StepsTell asks takes layout None before after v w = EndsJust layout [] v w × (after ≡ before)
StepsTell asks takes layout (Some key) before after v w = (e : Ending) × EndsJust layout (e ∷ []) v w
    × (place_named (plan_of layout v.shape) key ≡ Some e.name) × TookRead asks takes e before after

-- the pass is to end this generation, and has read so much of the value, in at most n steps that ended nothing
pub record IsEnding (layout : Layout) (x : SlotRef) (g : ℕ) (s : Sight) (n : ℕ) (v w : View) : Type 0 where
  pub grows : Grows (hand v.own.body (Finishing x g s)) [] n v w
  pub none : EndsJust layout [] v w
