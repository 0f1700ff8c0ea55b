-- The holds on a key are holds on the slot that it names, so the slot's bound is theirs too.
use Rattle.std.proofs.Common.{◌≡◌, ℕ, zero, suc, ◌≤◌, ◌==◌, Bool, true, false, refl, sym, ◌∙◌, arith, Option, Some}
use Rattle.std.proofs.Common.{None, eqb-true}
use Rattle.sh_slots.specs.declared.hand.KeyRef.{KeyRef}
use Rattle.sh_slots.specs.Slots.{slot_ref_of}
use Rattle.sh_step.specs.declared.body.Body.{Body}
use Rattle.sh_step.specs.Collections.{total, if1}
use Rattle.sh_step.specs.Plans.{Plan}
use Rattle.sh_core.specs.Worlds.{World}
use Rattle.sh_core.specs.Lists.{times}
use Rattle.sh_core.specs.Tallies.{held, at_slot}
use Rattle.sh_core.specs.Reads.{AllReadsAgree}
use Rattle.sh_core.specs.Refines.{HoldsAreFew}
use Rattle.sh_core.proofs.Sums.Totals.{total_le, some_part}
use Rattle.sh_core.proofs.Slots.Slots.{same_slot-refl}
use Rattle.sh_core.proofs.Kept.HoldsInBound.{HoldsInBound}

pub holds_few : (plan : Plan) (w : World) → AllReadsAgree plan w → HoldsInBound plan w → HoldsAreFew plan w
holds_few plan w know few k = go (plan.keys.unpack k) refl where
  on_slot : (n : KeyRef) → plan.keys.unpack k ≡ Some n → (j : ℕ) (b : Bool) → (j == k) ≡ b
      → if1 b ≤ if1 (at_slot (slot_ref_of n) (plan.keys.unpack j))
  on_slot n name j false e = omega arith
  on_slot n name j true e =
      let i = eqb-true j k e in
      let here : if1 (at_slot (slot_ref_of n) (plan.keys.unpack j)) ≡ 1
      = rw (i, name, same_slot-refl (slot_ref_of n)) refl in omega arith

  held_by_none : plan.keys.unpack k ≡ None → (m : ℕ) → total (λ (p : Body). times k p.holds) w.parts ≡ m
      → m ≤ plan.keys.guard_max
  held_by_none name zero e = omega arith
  held_by_none name (suc m) e =
      let s = some_part (λ (p : Body). times k p.holds) w.parts (omega arith) in
      let n = (know s.0 s.1 s.2).named k s.3 in
      absurd (let z : None ≡ Some n.0 = sym name ∙ n.1 in cc)

  go : (o : Option KeyRef) → plan.keys.unpack k ≡ o
      → total (λ (p : Body). times k p.holds) w.parts ≤ plan.keys.guard_max
  go (Some n) name =
      let one : (p : Body) → times k p.holds ≤ held plan (slot_ref_of n) p = λ p. total_le (λ j. if1 (j == k))
      (λ j. if1 (at_slot (slot_ref_of n) (plan.keys.unpack j))) (λ j. on_slot n name j (j == k) refl) p.holds in
      let t = total_le (λ (p : Body). times k p.holds) (held plan (slot_ref_of n)) one w.parts in
      let f = few (slot_ref_of n) in omega arith
  go None name = held_by_none name (total (λ (p : Body). times k p.holds) w.parts) refl
