-- The keys of a page, and what a history says of each: live is issued and not removed; marked is removed and held;
-- retired is removed, the last key of its slot, and not held.
use Rattle.std.specs.Prelude.{◌≡◌, ◌<◌, ℕ, zero, suc, ◌==◌, nat_lt, Bool, false, not, ◌&&◌, List, [], ◌∷◌, ◌++◌, Some}
use Rattle.std.specs.Prelude.{None, is_some}
use Rattle.sh_history.specs.declared.entry.Entry.{Entry}
use Rattle.sh_history.specs.History.{value_of, is_removed, holds_on}
use Rattle.sh_key.specs.Layout.{Layout, IsLayout}
use Rattle.sh_shape.specs.Shape.{Numbers, IsShape, Fits}
use Rattle.sh_shape.specs.Places.{slot_places}
use Rattle.sh_slots.specs.declared.hand.KeyRef.{KeyRef}
use Rattle.sh_slots.specs.declared.hand.SlotRef.{SlotRef}
use Rattle.sh_slots.specs.Slots.{name_at, slot_refs}
use Rattle.sh_step.specs.Plans.{Plan, heap_pages, plan_of}
use Rattle.sh_core.specs.Lists.{times}

-- the keys of a slot, one of each generation up to this one
unfoldable pub keys_of_slot : Plan → SlotRef → ℕ → List ℕ
keys_of_slot plan x zero = []
keys_of_slot plan x (suc g) = plan.keys.pack (name_at x (suc g)) ∷ keys_of_slot plan x g

unfoldable pub keys_of_slots : Plan → List SlotRef → List ℕ
keys_of_slots plan [] = []
keys_of_slots plan (x ∷ xs) = keys_of_slot plan x plan.keys.gen_max ++ keys_of_slots plan xs

-- the keys of page q: one of each generation, for each slot that it has a place for
abbrev pub page_keys : Plan → ℕ → List ℕ
page_keys plan q = keys_of_slots plan (slot_refs q 0 slot_places)

-- its generation is the last that a slot has
abbrev pub is_last_key : Plan → ℕ → Bool
is_last_key plan k = elim (plan.keys.unpack k) [ Some n ↦ n.generation == plan.keys.gen_max | None ↦ false ]

abbrev pub is_live_key : List Entry → ℕ → Bool
is_live_key history k = is_some (value_of history k) && not (is_removed history k)

abbrev pub is_marked_key : List Entry → ℕ → Bool
is_marked_key history k = is_removed history k && nat_lt 0 (holds_on history k)

abbrev pub is_retired_key : Plan → List Entry → ℕ → Bool
is_retired_key plan history k = is_removed history k && is_last_key plan k && (holds_on history k == 0)

-- each key that names a slot of page q is listed once among the page's keys, and each listed key is such a key
abbrev pub PageKeysOnce : Plan → Type 0
PageKeysOnce plan = (q k : ℕ) → q < heap_pages plan →
    ((n : KeyRef) → plan.keys.unpack k ≡ Some n → n.page ≡ q → n.slot < slot_places → times k (page_keys plan q) ≡ 1)
    × (0 < times k (page_keys plan q) → (n : KeyRef) × (plan.keys.unpack k ≡ Some n) × (n.page ≡ q)
    × (n.slot < slot_places))

abbrev pub PageKeysAreAll : Type 0
PageKeysAreAll = (layout : Layout) (shape : Numbers) → IsLayout layout → IsShape shape → Fits layout shape
    → PageKeysOnce (plan_of layout shape)
