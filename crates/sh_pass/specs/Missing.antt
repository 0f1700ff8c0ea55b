-- Keys that steps of a pass missed.
use Rattle.std.specs.Prelude.{◌≡◌, ℕ, ◌⊎◌, true, false, List, ◌∷◌, ◌++◌, Some}
use Rattle.sh_slots.specs.declared.hand.KeyRef.{KeyRef}
use Rattle.sh_slots.specs.declared.hand.SlotRef.{SlotRef}
use Rattle.sh_slots.specs.Slots.{live_at, past_at, slot_ref_of}
use Rattle.sh_step.specs.declared.action.Action.{Action}
use Rattle.sh_step.specs.declared.action.Action.TheVariants.{EnterGet}
use Rattle.sh_step.specs.declared.footstep.Footstep.{Footstep}
use Rattle.sh_step.specs.Moves.{place_named}
use Rattle.sh_step.specs.Plans.{Plan}
use Rattle.sh_table.specs.declared.view.View.{View}
use Rattle.sh_table.specs.Views.{HeardOfInsert}
use Rattle.sh_pass.specs.Deciding.{step_at_slot}

-- One of these steps missed the key of this name: the word that it found in the slot is not live in the key's
-- generation. If the caller did or heard of the key's insert before, the word is past the key, or a get of it was Gone
pub record StepMisses (v : View) (k : ℕ) (name : KeyRef) (new : List Footstep) : Type 0 where
  pub action : Action
  pub found : ℕ
  pub earlier : List Footstep
  pub later : List Footstep
  pub steps : new ≡ earlier ++ step_at_slot action name found ∷ later
  pub absent : live_at name.generation found ≡ false
  pub removed : HeardOfInsert v k → (past_at name.generation found ≡ true) ⊎ (action ≡ EnterGet k)

-- each key of the slot was missed
abbrev pub MissesKeysOf : Plan → View → SlotRef → List Footstep → Type 0
MissesKeysOf plan v x new = (k : ℕ) (name : KeyRef) → place_named plan k ≡ Some name → slot_ref_of name ≡ x
    → StepMisses v k name new
