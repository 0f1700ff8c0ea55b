-- Keys that name a place of the heap.
use Rattle.std.proofs.Common.{◌≡◌, ℕ, ◌<◌, ◌&&◌, true, Bool, cond, Option, Some, None, ap, ◌∙◌, refl, arith}
use Rattle.std.specs.Prelude.{nat_lt}
use Rattle.std.proofs.lemmas.Bool.Decides.{nat_tests}
use Rattle.sh_slots.specs.declared.hand.KeyRef.{KeyRef}
use Rattle.sh_step.specs.Moves.{place_named}
use Rattle.sh_step.specs.Plans.{Plan, heap_pages as all_plan_pages}

pub named_is : (plan : Plan) (k : ℕ) (n : KeyRef) → plan.keys.unpack k ≡ Some n → n.page < all_plan_pages plan
    → n.slot < 48 → place_named plan k ≡ Some n
named_is plan k n e page slot =
    let a : nat_lt n.page (all_plan_pages plan) ≡ true = grind (arith, nat_tests) in
    let b : nat_lt n.slot 48 ≡ true = grind (arith, nat_tests) in
    ap (λ (o : Option KeyRef). elim o as (λ _. Option KeyRef) [
      | Some x
          ↦ cond (nat_lt x.page (all_plan_pages plan) && nat_lt x.slot 48) (Some x) None
      | None ↦ None
    ]) e
    ∙ rw (a, b) refl
