-- Each marked slot has a hold on it or a pass on its way there, and each slot in a hand a pass.
use Rattle.std.proofs.Common.{◌≡◌, ℕ, zero, suc, ◌+◌, ◌*◌, ◌≤◌, ◌==◌, ◌&&◌, Bool, true, false, refl, arith}
use Rattle.std.proofs.Common.{Option, Some, None, length}
use Rattle.std.specs.Prelude.{not}
use Rattle.sh_step.specs.declared.body.Body.{Body}
use Rattle.sh_step.specs.Collections.{total, if1}
use Rattle.sh_slots.specs.declared.hand.Hand.{Hand}
use Rattle.sh_slots.specs.declared.hand.Hand.TheVariants.{Removing, Leaving, Finishing, ToPut, Filling}
use Rattle.sh_slots.specs.declared.hand.KeyRef.{KeyRef}
use Rattle.sh_core.specs.Lists.{PutLists, accounts, in_hand, lists_of, state_of}
use Rattle.sh_step.specs.Plans.{Plan, plan_of}
use Rattle.sh_core.specs.Refines.{Always, Refines, holds_now, in_hands, marked}
use Rattle.sh_step.specs.Rows.{idle, hand}
use Rattle.sh_slots.specs.declared.hand.SlotRef.{SlotRef}
use Rattle.sh_slots.specs.Slots.{same_slot, slot_ref_of}
use Rattle.sh_core.specs.Tallies.{at_slot, current, finishing, visits}
use Rattle.sh_core.specs.Worlds.{World, run}
use Rattle.sh_core.proofs.Clauses.RunTheorem.{theorem}
use Rattle.sh_core.proofs.Sums.Tests.{if1_few}
use Rattle.sh_core.proofs.Sums.Totals.{total_le, total_few, total_length, total_plus}
use Rattle.sh_laws.specs.Garbage.{all_holds, busy_passes, GarbageIsFew}
use Rattle.sh_laws.proofs.Sums.{over, over_le, over_plus, over_swap, over_once, over_none}

both_less : (a b : Bool) → if1 (a && b) ≤ if1 a
both_less true b = if1_few b
both_less false b = omega arith

-- ---- what one pass is to the slots of the heap

module _ (plan : Plan) (w : World) where
  -- a key is a hold on one slot at most
  key_on : (o : Option KeyRef) → over plan w (λ x. if1 (at_slot x o && current (state_of w x) o)) ≤ 1
  key_on (Some y) =
      let less = over_le plan w (λ x. if1 (same_slot x (slot_ref_of y) && current (state_of w x) (Some y)))
      (λ x. if1 (same_slot x (slot_ref_of y)))
      (λ x. both_less (same_slot x (slot_ref_of y)) (current (state_of w x) (Some y))) in
      let one = over_once plan w (slot_ref_of y) in omega (arith, less, one)
  key_on None = let none = over_none plan w in omega (arith, none)

  pub held_on : (p : Body) → over plan w (λ x. holds_now plan x (state_of w x) p) ≤ length p.holds
  held_on p =
      let swap = over_swap plan w
      (λ x (k : ℕ). if1 (at_slot x (plan.keys.unpack k) && current (state_of w x) (plan.keys.unpack k))) p.holds in
      let few = total_length
      (λ (k : ℕ). over plan w
      (λ x. if1 (at_slot x (plan.keys.unpack k) && current (state_of w x) (plan.keys.unpack k))))
      (λ k. key_on (plan.keys.unpack k)) p.holds in omega (arith, swap, few)

  -- what a pass has begun is on one slot at most
  abbrev pub has_begun : SlotRef → Body → ℕ
  has_begun x p = visits plan x p + finishing x (state_of w x).generation p + in_hand x p

  key_visits : (o : Option KeyRef) → over plan w (λ x. if1 (at_slot x o)) ≤ 1
  key_visits (Some y) = over_once plan w (slot_ref_of y)
  key_visits None = let none = over_none plan w in omega (arith, none)

  pub begun_on : (p : Body) (h : Hand) → over plan w (λ x. has_begun x (hand p h)) ≤ if1 (not (idle (hand p h)))
  begun_on p (Removing k) =
      let less = over_le plan w (λ x. has_begun x (hand p (Removing k))) (λ x. if1 (at_slot x (plan.keys.unpack k)))
      (λ x. omega arith) in
      let one = key_visits (plan.keys.unpack k) in omega (arith, less, one)
  begun_on p (Leaving y) =
      let less = over_le plan w (λ x. has_begun x (hand p (Leaving y))) (λ x. if1 (same_slot x y)) (λ x. omega arith) in
      let one = over_once plan w y in omega (arith, less, one)
  begun_on p (Finishing y g s) =
      let less = over_le plan w (λ x. has_begun x (hand p (Finishing y g s))) (λ x. if1 (same_slot x y))
      (λ x. let both = both_less (same_slot x y) (g == (state_of w x).generation) in omega (arith, both)) in
      let one = over_once plan w y in omega (arith, less, one)
  begun_on p (ToPut y) =
      let less = over_le plan w (λ x. has_begun x (hand p (ToPut y))) (λ x. if1 (same_slot x y)) (λ x. omega arith) in
      let one = over_once plan w y in omega (arith, less, one)
  begun_on p (Filling y v i) =
      let less = over_le plan w (λ x. has_begun x (hand p (Filling y v i))) (λ x. if1 (same_slot x y))
      (λ x. omega arith) in
      let one = over_once plan w y in omega (arith, less, one)
  begun_on p h = let none = over_none plan w in omega (arith, none)

-- ---- all slots, and all passes

module _ (plan : Plan) (w : World) (l : PutLists) (all : Refines plan w l) where
  -- a marked slot has a hold, a pass that removes or leaves there, or a pass that finishes it
  is_waited_for : (x : SlotRef) → marked (state_of w x) + in_hands w x
      ≤ total (λ (p : Body). holds_now plan x (state_of w x) p + has_begun plan w x p) w.parts
  is_waited_for x =
      let sum = total_plus (λ (p : Body). holds_now plan x (state_of w x) p) (λ (p : Body). has_begun plan w x p)
      w.parts in
      let begun = total_plus (λ (p : Body). visits plan x p + finishing x (state_of w x).generation p) (in_hand x)
      w.parts in
      let visit = total_plus (visits plan x) (finishing x (state_of w x).generation) w.parts in
      let count = all.counted x in
      let some = go (state_of w x).present (state_of w x).marked (state_of w x).count refl refl refl in
      omega (arith, sum, begun, visit, count, some) where
        go : (p m : Bool) (k : ℕ) → (state_of w x).present ≡ p → (state_of w x).marked ≡ m → (state_of w x).count ≡ k
            → if1 (p && m) ≤ k + total (finishing x (state_of w x).generation) w.parts
        go true true zero a b none = let more = all.finished x a b none in omega (arith, more)
        go true true (suc k) a b some = omega arith
        go true false k a b is = omega arith
        go false m k a b is = omega arith

  -- so they are at most what the passes hold and have begun
  pub waited_for : over plan w (λ x. marked (state_of w x) + in_hands w x)
      ≤ total (λ (p : Body). over plan w (λ x. holds_now plan x (state_of w x) p + has_begun plan w x p)) w.parts
  waited_for =
      let less = over_le plan w (λ x. marked (state_of w x) + in_hands w x)
      (λ x. total (λ (p : Body). holds_now plan x (state_of w x) p + has_begun plan w x p) w.parts) is_waited_for in
      let swap = over_swap plan w (λ x (p : Body). holds_now plan x (state_of w x) p + has_begun plan w x p) w.parts in
      omega (arith, less, swap)

  each_pass : (p : Body) → over plan w (λ x. holds_now plan x (state_of w x) p + has_begun plan w x p)
      ≤ length p.holds + if1 (not (idle p))
  each_pass p =
      let sum = over_plus plan w (λ x. holds_now plan x (state_of w x) p) (λ x. has_begun plan w x p) in
      let holds = held_on plan w p in
      let begun = begun_on plan w p p.hand in omega (arith, sum, holds, begun)

  together : over plan w (λ x. marked (state_of w x) + in_hands w x) ≤ all_holds w + busy_passes w
  together =
      let each = total_le
      (λ (p : Body). over plan w (λ x. holds_now plan x (state_of w x) p + has_begun plan w x p))
      (λ (p : Body). length p.holds + if1 (not (idle p))) each_pass w.parts in
      let sum = total_plus (λ (p : Body). length p.holds) (λ (p : Body). if1 (not (idle p))) w.parts in
      let waited = waited_for in omega (arith, waited, each, sum)

  hands_few : over plan w (in_hands w) ≤ busy_passes w
  hands_few =
      let swap = over_swap plan w in_hand w.parts in
      let each = total_le (λ (p : Body). over plan w (λ x. in_hand x p)) (λ (p : Body). if1 (not (idle p))) one w.parts
      in omega (arith, swap, each) where
        one : (p : Body) → over plan w (λ x. in_hand x p) ≤ if1 (not (idle p))
        one p =
            let less = over_le plan w (λ x. in_hand x p) (λ x. has_begun plan w x p) (λ x. omega arith) in
            let begun = begun_on plan w p p.hand in omega (arith, less, begun)

  -- a pass has at most 16 holds, and has begun one thing at most
  pub holds_few : all_holds w ≤ 16 * plan.passes
  holds_few =
      let few = total_few (λ (p : Body). length p.holds) 16 w.parts (λ a p at. (all.parts a p at).few_holds) in
      let passes = all.passes in omega (arith, few, passes)

  pub busy_few : busy_passes w ≤ plan.passes
  busy_few =
      let few = total_length (λ (p : Body). if1 (not (idle p))) (λ p. if1_few (not (idle p))) w.parts in
      let passes = all.passes in omega (arith, few, passes)

  garbage_is_few : GarbageIsFew plan w l
  unfolding accounts
  garbage_is_few =
      let sum = over_plus plan w (λ x. marked (state_of w x)) (in_hands w) in record {
        together = omega (arith, sum, together);
        hands = hands_few;
        few = omega (arith, sum, together, holds_few, busy_few);
      }

pub garbage_is_bounded : Always GarbageIsFew
garbage_is_bounded layout shape a b f es = garbage_is_few (plan_of layout shape) (run (plan_of layout shape) es)
    (lists_of (plan_of layout shape) es) (theorem layout shape a b f es)
