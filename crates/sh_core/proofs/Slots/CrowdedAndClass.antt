-- SetClass on the slots, and Crowded.
use Rattle.std.proofs.Common.{◌≡◌, ℕ, zero, suc, ◌+◌, ◌≤◌, ◌==◌, ◌&&◌, ◌||◌, Bool, true, false, cond, List}
use Rattle.std.proofs.Common.{[], ◌∷◌, length, sym, refl, ap, ◌∙◌, arith, Option, Some, None, slice_get, eqb-true}
use Rattle.std.specs.Prelude.{not, nat_lt}
use Rattle.std.proofs.lemmas.Bool.Decides.{nat_tests}
use Rattle.sh_history.specs.declared.entry.Entry.TheVariants.{Crowded}
use Rattle.sh_slots.specs.declared.hand.SlotRef.{SlotRef}
use Rattle.sh_slots.specs.declared.hand.KeyRef.{KeyRef}
use Rattle.sh_slots.specs.declared.hand.Hand.TheVariants.{Idle}
use Rattle.sh_word.specs.Fields.{Fields, fields_of}
use Rattle.sh_step.specs.Plans.{Plan, Lawful}
use Rattle.sh_shape.specs.Classes.{slots}
use Rattle.sh_slots.specs.Slots.{same_slot, slot_refs, slot_ref_of, live_at}
use Rattle.sh_step.specs.Collections.{total, if1}
use Rattle.sh_step.specs.declared.body.Body.{Body}
use Rattle.sh_step.specs.Rows.{hand}
use Rattle.sh_core.specs.Worlds.{World, value_at}
use Rattle.sh_core.specs.Lists.{PutLists, times}
use Rattle.sh_core.specs.Tallies.{held, visits, lost, at_slot, stale}
use Rattle.sh_core.specs.Stories.{values}
use Rattle.sh_core.proofs.Slots.Permits.{Permits}
use Rattle.sh_core.specs.Sums.{Sums}
use Rattle.sh_core.proofs.Sums.Totals.{total_le, total_plus, total_length}
use Rattle.sh_core.proofs.Slots.Slots.{same_slot-true}
use Rattle.sh_core.proofs.Slots.Logs.{live_parts}
use Rattle.sh_core.proofs.Slots.MarkStep.{same_key}
use Rattle.sh_core.proofs.Slots.SlotSums.{visits_few}

-- how often a slot is among the n slots of page q from s on
pub slots_total : (x : SlotRef) (q s n : ℕ) → total (λ y. if1 (same_slot x y)) (slot_refs q s n)
    ≡ if1 ((x.page == q) && not (nat_lt x.slot s) && nat_lt x.slot (s + n))
unfolding total slot_refs
slots_total x q s zero = go (x.page == q) where
  go : (b : Bool) → 0 ≡ if1 (b && not (nat_lt x.slot s) && nat_lt x.slot (s + 0))
  go true = grind (arith, nat_tests)
  go false = refl
slots_total x q s (suc n) = go (x.page == q) (slots_total x q (s + 1) n) where
  go : (b : Bool) → total (λ y. if1 (same_slot x y)) (slot_refs q (s + 1) n)
      ≡ if1 (b && not (nat_lt x.slot (s + 1)) && nat_lt x.slot (s + 1 + n))
      → if1 (b && (x.slot == s)) + total (λ y. if1 (same_slot x y)) (slot_refs q (s + 1) n)
      ≡ if1 (b && not (nat_lt x.slot s) && nat_lt x.slot (s + suc n))
  go true h = rw h (grind (arith, nat_tests))
  go false h = omega arith

but_one : {A : Type 0} (f : A → ℕ) → ((x : A) → f x ≤ 1) → (xs : List A) (i : ℕ) (v : A) → slice_get xs i ≡ Some v → f v
    ≡ 0 → total f xs + 1 ≤ length xs
unfolding total
but_one f h [] i v e z = absurd (let z : None ≡ Some v = e in cc)
but_one f h (x ∷ xs) zero v e z =
    let s : x ≡ v = cc in
    let u : f x ≡ f v = ap f s in
    let r = total_length f h xs in omega arith
but_one f h (x ∷ xs) (suc i) v e z = let one = h x in let r = but_one f h xs i v e z in omega arith

-- a hold on the slot is on the present key, or lost
on_key : (plan : Plan) (st : Fields) (k : ℕ) (y : KeyRef) → Lawful plan → plan.keys.unpack k ≡ Some y → y.generation
    ≡ st.generation → (j : ℕ)
    → if1 (at_slot (slot_ref_of y) (plan.keys.unpack j)) ≤ if1 (j == k) + stale st (slot_ref_of y) (plan.keys.unpack j)
on_key plan st k y laws name gen j = go (plan.keys.unpack j) refl where
  go : (o : Option KeyRef) → plan.keys.unpack j ≡ o
      → if1 (at_slot (slot_ref_of y) o) ≤ if1 (j == k) + stale st (slot_ref_of y) o
  go None e = omega arith
  go (Some z) e = by (same_slot (slot_ref_of y) (slot_ref_of z)) st.present (z.generation == st.generation) refl
      refl where
        by : (b c d : Bool) → same_slot (slot_ref_of y) (slot_ref_of z) ≡ b → (z.generation == st.generation) ≡ d
            → if1 b ≤ if1 (j == k) + cond b (if1 (not (c && d))) 0
        by true true true h f =
            let s : slot_ref_of z ≡ slot_ref_of y = sym (same_slot-true (slot_ref_of z) (slot_ref_of y) h) in
            let g : z.generation ≡ y.generation = eqb-true z.generation st.generation f ∙ sym gen in
            let t = same_key plan j k z y laws e name (sym s) (sym g) in omega arith
        by true true false h f = omega arith
        by true false d h f = omega arith
        by false c d h f = omega arith

pub crowded_permitted : (plan : Plan) (w : World) (l : PutLists) (a : ℕ) (p : Body) (k : ℕ) (y : KeyRef) → Lawful plan
    → Sums plan w l → slice_get w.parts a ≡ Some (hand p Idle) → plan.keys.unpack k ≡ Some y
    → live_at y.generation (w.words.state_at y.page y.slot) ≡ true
    → nat_lt (fields_of (w.words.state_at y.page y.slot)).count plan.keys.guard_max ≡ false
    → Permits plan w.log (Crowded a k)
crowded_permitted plan w l a p k y laws g at name live under =
    let x : SlotRef = slot_ref_of y in
    let st : Fields = fields_of (w.words.state_at y.page y.slot) in
    let c = live_parts st.present st.marked st.generation y.generation live in
    let s = g.keys k y name in
    let v : values k w.log ≡ value_at w.words y.page y.slot ∷ [] = s.value c.2 (rw c.0 refl) in
    let m = s.mark c.2 in
    let zero : if1 st.marked ≡ 0 = rw c.1 refl in
    let f = g.slots x in
    let full : plan.keys.guard_max ≤ st.count = grind (arith, nat_tests) in
    let t : total (λ u. held plan x u) w.parts ≤ total (λ u. times k u.holds + lost plan x st u) w.parts = total_le
    (λ u. held plan x u) (λ u. times k u.holds + lost plan x st u) (λ u. each u) w.parts in
    let u = total_plus (λ (u : Body). times k u.holds) (lost plan x st) w.parts in
    let r = but_one (visits plan x) (λ u. visits_few plan x u u.hand) w.parts a (hand p Idle) at refl in
    let h = g.all_holds k in
    let n = g.passes in (rw v (omega arith), omega arith, omega arith) where
      each : (u : Body) → held plan (slot_ref_of y) u ≤ times k u.holds + lost plan (slot_ref_of y)
          (fields_of (w.words.state_at y.page y.slot)) u
      each u =
          let st : Fields = fields_of (w.words.state_at y.page y.slot) in
          let c = live_parts st.present st.marked st.generation y.generation live in
          let t = total_le (λ j. if1 (at_slot (slot_ref_of y) (plan.keys.unpack j)))
          (λ j. if1 (j == k) + stale st (slot_ref_of y) (plan.keys.unpack j)) (on_key plan st k y laws name c.2) u.holds
          in
          let q = total_plus (λ (j : ℕ). if1 (j == k)) (λ j. stale st (slot_ref_of y) (plan.keys.unpack j)) u.holds
          in omega arith

-- the three kinds of a slot that is not empty
pub three : (p m : Bool) → if1 (p && not m) + (if1 (p && m) + if1 (not p && m)) ≡ if1 (p || m)
three true true = refl
three true false = refl
three false true = refl
three false false = refl
