-- What a load of a slot's state word tells of the keys of the slot.
use Rattle.std.specs.Prelude.{◌≡◌, ℕ, ◌/◌, ◌%◌, true, false, List, [], ◌∷◌, Option, Some, None}
use Rattle.sh_key.specs.Layout.{Layout, IsInRange}
use Rattle.sh_shape.specs.declared.places.Place.TheVariants.{State}
use Rattle.sh_shape.specs.Places.{pages_of, slot_places}
use Rattle.sh_shape.specs.Shape.{Numbers}
use Rattle.sh_slots.specs.declared.hand.KeyRef.{KeyRef}
use Rattle.sh_slots.specs.declared.hand.SlotRef.{SlotRef}
use Rattle.sh_slots.specs.Slots.{live_at, slot_ref_of}
use Rattle.sh_step.specs.declared.action.Action.TheVariants as action
use Rattle.sh_step.specs.declared.footstep.Footstep.{Footstep}
use Rattle.sh_step.specs.Conditions.{slot_name}
use Rattle.sh_step.specs.Moves.{place_named}
use Rattle.sh_step.specs.Plans.{Plan, parts_of, plan_of}
use Rattle.sh_table.specs.declared.view.View.{View}
use Rattle.sh_table.specs.Steps.{HeardSays}
use Rattle.sh_pass.specs.Passes.{Caller, CallAdds, holds, plan_for}

-- the slot at this place of the heap: each page has 48 places
abbrev pub slot_at : ℕ → SlotRef
slot_at place = record { page = place / slot_places; slot = place % slot_places }

-- this is the key of that name, or the layout has none
abbrev pub IsKeyNamed : Layout → Numbers → KeyRef → Option ℕ → Type 0
IsKeyNamed layout shape n (Some k) = place_named (plan_of layout shape) k ≡ Some n
IsKeyNamed layout shape n None = ¬ IsInRange layout (parts_of (pages_of shape) n)

-- what a state word says of the keys of its slot: this one is live, or none is
abbrev pub SaysLive : Plan → SlotRef → (word : ℕ) → Option ℕ → Type 0
SaysLive plan x word (Some k) = (n : KeyRef) × (place_named plan k ≡ Some n) × (slot_ref_of n ≡ x)
    × (live_at n.generation word ≡ true)
SaysLive plan x word None = (k : ℕ) (n : KeyRef) → place_named plan k ≡ Some n → slot_ref_of n ≡ x
    → live_at n.generation word ≡ false

-- One step loaded the state word of this slot, which says which key is live. If the caller did or heard of the insert
-- of a key of the slot, the word is live in the key's generation or past it
pub record Peeked (plan : Plan) (v : View) (x : SlotRef) (key : Option ℕ) (new : List Footstep) : Type 0 where
  pub word : ℕ
  pub steps : new ≡ record {
    action = action.Peek (slot_name plan x);
    place = State x.page x.slot;
    answer = Some word;
  } ∷ []
  pub says : SaysLive plan x word key
  pub heard : HeardSays plan v (State x.page x.slot) word

-- what a peek at a place does: this one step
abbrev pub PeekDoes : Layout → (place : ℕ) → Caller → Option ℕ → Caller → Type 0
PeekDoes layout place v key w = CallAdds [] (holds v) 1 (Peeked (plan_for layout v) v.view (slot_at place) key) v w
