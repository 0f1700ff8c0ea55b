-- Where the words of a key's slot are, for the loads that only warm them.
use Rattle.std.proofs.Common.{◌≡◌, ℕ, ◌<◌, Option, Some, sym, subst, ◌∙◌}
use Rattle.sh_key.specs.Layout.{Layout}
use Rattle.sh_slots.specs.declared.hand.KeyRef.{KeyRef}
use Rattle.sh_shape.specs.Shape.{Numbers}
use Rattle.sh_shape.specs.Places.{all_pages, slot_places}
use Rattle.sh_step.specs.Conditions.{Named}
use Rattle.sh_step.specs.Moves.{place_named}
use Rattle.sh_step.specs.Plans.{plan_of}
use Rattle.sh_step.proofs.LookupLaws.{place_is}

-- the slot that a key names is one of the heap's
pub in_heap : (layout : Layout) {s t : Numbers} (k : ℕ) (x : KeyRef) (o : Option KeyRef)
    → o ≡ place_named (plan_of layout s) k → o ≡ Some x → s ≡ t → (x.page < all_pages t) × (x.slot < slot_places)
in_heap layout {s} k x o found is same =
    let named : Named (plan_of layout s) k x = place_is (plan_of layout s) k x (sym found ∙ is) in
    (subst (λ (n : Numbers). x.page < all_pages n) same named.page, named.slot)
