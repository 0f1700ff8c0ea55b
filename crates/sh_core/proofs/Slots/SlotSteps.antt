-- What is kept of each slot, kind by kind.
use Rattle.std.proofs.Common.{◌≡◌, ℕ, ◌+◌, ◌-◌, ◌^◌, ◌<◌, ◌≤◌, ◌==◌, ◌&&◌, ◌||◌, Bool, true, false, cond, List, ◌∷◌}
use Rattle.std.proofs.Common.{set, refl, arith, Option, Some, slice_get}
use Rattle.std.proofs.lemmas.Bool.Decides.{nat_tests}
use Rattle.sh_slots.specs.declared.hand.SlotRef.{SlotRef}
use Rattle.sh_slots.specs.declared.hand.KeyRef.{KeyRef}
use Rattle.sh_slots.specs.declared.hand.Hand.TheVariants.{Idle, Removing, Leaving, Finishing, ToPut, Filling}
use Rattle.sh_slots.specs.declared.hand.Sight.{Sight}
use Rattle.sh_slots.specs.declared.hand.Sight.TheVariants.{Bare}
use Rattle.sh_core.specs.Words.{Words, write}
use Rattle.sh_shape.specs.declared.places.Place.TheVariants.{State}
use Rattle.sh_word.specs.Fields.{Fields, fields_of}
use Rattle.sh_step.specs.Plans.{Plan}
use Rattle.sh_slots.specs.Slots.{same_slot, after_drop, slot_ref_of}
use Rattle.sh_step.specs.Collections.{total, if1, without, has}
use Rattle.sh_step.specs.declared.body.Body.{Body}
use Rattle.sh_core.specs.Lists.{PutLists, in_hand}
use Rattle.sh_step.specs.Rows.{hand, freed}
use Rattle.sh_core.specs.Tallies.{AddsUp, tally, due, visits, SlotsAddUp, at_slot, current, stale}
use Rattle.sh_core.proofs.Sums.Totals.{total_at, total_without}
use Rattle.sh_word.proofs.Words.{fields_of-sub, fields_of-add}
use Rattle.sh_core.proofs.Slots.Slots.{tally_set, slots_state, same_slot-refl, tally_ext, lost_le, lost_most}
use Rattle.sh_core.proofs.Slots.Slots.{if1_same_slot}
use Rattle.sh_core.proofs.Sums.Tests.{if1_neither}

pub fields_of-entered : (n : ℕ) → (fields_of n).count + 1 < 2 ^ 30 → fields_of (n + 1)
    ≡ record (fields_of n) { count = (fields_of n).count + 1 }
fields_of-entered n h = fields_of-add n (omega arith)

was_last : (p m : Bool) (n : ℕ) → p ≡ true → m ≡ true → 0 < n → n - 1 ≡ 0 → (p && m && (n == 1)) ≡ false → ⊥
was_last true true n _ _ c d e = grind (arith, nat_tests)
was_last true false n _ b c d e = cc
was_last false m n a b c d e = cc

pub drop_adds_up : (b : Bool) (r q : ℕ) (st : Fields) (plan : Plan) (ps : List Body) (a : ℕ) (p : Body) (x : SlotRef)
    → slice_get ps a ≡ Some (hand p (Leaving x))
    → AddsUp r q st (tally plan x st ps) → 0 < st.count → (st.present && st.marked && (st.count == 1)) ≡ b
    → AddsUp r q (record st { count = st.count - 1 }) (tally plan x (record st { count = st.count - 1 })
    (set ps a (hand p (cond b (Finishing x st.generation Bare) Idle))))
drop_adds_up true r q st plan ps a p x at f some is =
    let m = tally_set plan x st ps a (hand p (Leaving x)) (hand p (Finishing x st.generation Bare)) at in
    let here = if1_same_slot x in
    let there : if1 (same_slot x x && (st.generation == st.generation)) ≡ 1 = grind (arith, nat_tests) in
    record { kinds = omega arith; counts = omega arith; none_lost = omega arith; owed = λ _ _ _. omega arith }
drop_adds_up false r q st plan ps a p x at f some is =
    let m = tally_set plan x st ps a (hand p (Leaving x)) (hand p Idle) at in
    let here = if1_same_slot x in
    record {
      kinds = omega arith;
      counts = omega arith;
      none_lost = omega arith;
      owed = λ c d n. absurd
          (was_last st.present st.marked st.count c d some n is);
    }

pub drop_due : (b : Bool) (g : ℕ) (plan : Plan) (p : Body) (x y : SlotRef) (st : Fields) → same_slot y x ≡ false
    → due plan y st (hand p (cond b (Finishing x g Bare) Idle)) ≡ due plan y st (hand p (Leaving x))
drop_due true g plan p x y st h = rw h refl
drop_due false g plan p x y st h = rw h refl

-- a pass that leaves a slot is one of its visitors
pub leaving : (plan : Plan) (ps : List Body) (a : ℕ) (p : Body) (x : SlotRef)
    → slice_get ps a ≡ Some (hand p (Leaving x))
    → 0 < total (visits plan x) ps
leaving plan ps a p x at = let here = if1_same_slot x
    in let t = total_at (visits plan x) ps a (hand p (Leaving x)) at in omega arith

pub drop_slots : (plan : Plan) (w : Words) (ps : List Body) (l : PutLists) (a : ℕ) (p : Body) (x : SlotRef)
    → SlotsAddUp plan w ps l → slice_get ps a ≡ Some (hand p (Leaving x))
    → SlotsAddUp plan (write w (State x.page x.slot) (w.state_at x.page x.slot - 1))
    (set ps a (hand p (after_drop x (w.state_at x.page x.slot)))) l
drop_slots plan w ps l a p x old at = let f = old x in let v = leaving plan ps a p x at
    in let some : 0 < (fields_of n).count = omega arith in
    slots_state plan w ps l a (hand p (Leaving x)) (hand p (after_drop x n)) x (n - 1) old at
    (λ y st h. drop_due b (fields_of n).generation plan p x y st h)
    (rw (fields_of-sub n some) (drop_adds_up b _ _ (fields_of n) plan ps a p x at f some refl)) where
      n : ℕ
      n = w.state_at x.page x.slot

      b : Bool
      b = (fields_of n).present && (fields_of n).marked && ((fields_of n).count == 1)

-- Enter, if the pass only visits: one more visitor
pub enter_adds_up : (r q : ℕ) (st : Fields) (plan : Plan) (ps : List Body) (a : ℕ) (p : Body) (x : SlotRef)
    → slice_get ps a
    ≡ Some (hand p Idle) → AddsUp r q st (tally plan x st ps)
    → AddsUp r q (record st { count = st.count + 1 }) (tally plan x (record st { count = st.count + 1 })
    (set ps a (hand p (Leaving x))))
enter_adds_up r q st plan ps a p x at f =
    let m = tally_set plan x st ps a (hand p Idle) (hand p (Leaving x)) at in
    let here = if1_same_slot x in
    record { kinds = omega arith; counts = omega arith; none_lost = omega arith; owed = λ c d n. absurd (omega arith) }

pub enter_slots : (plan : Plan) (w : Words) (ps : List Body) (l : PutLists) (a : ℕ) (p : Body) (x : SlotRef)
    → SlotsAddUp plan w ps l → slice_get ps a ≡ Some (hand p Idle)
    → (fields_of (w.state_at x.page x.slot)).count + 1 < 2
    ^ 30
    → SlotsAddUp plan (write w (State x.page x.slot) (w.state_at x.page x.slot + 1)) (set ps a (hand p (Leaving x))) l
enter_slots plan w ps l a p x old at few = let f = old x in
    slots_state plan w ps l a (hand p Idle) (hand p (Leaving x)) x (n + 1) old at (λ y st h. rw h refl)
    (rw (fields_of-entered n few) (enter_adds_up _ _ (fields_of n) plan ps a p x at f)) where
      n : ℕ
      n = w.state_at x.page x.slot

abbrev pub holding : Body → ℕ → Body
holding p k = record p { holds = k ∷ p.holds }

-- Enter that gets: one more hold, of the present generation
pub get_adds_up : (r q : ℕ) (st : Fields) (plan : Plan) (ps : List Body) (a : ℕ) (p : Body) (k : ℕ) (y : KeyRef)
    → plan.keys.unpack k ≡ Some y → current st (Some y) ≡ true
    → slice_get ps a ≡ Some (hand p Idle) → AddsUp r q st (tally plan (slot_ref_of y) st ps)
    → AddsUp r q (record st { count = st.count + 1 }) (tally plan (slot_ref_of y) (record st { count = st.count + 1 })
    (set ps a (hand (holding p k) Idle)))
unfolding total
get_adds_up r q st plan ps a p k y name now at f =
    let x : SlotRef = slot_ref_of y in
    let m = tally_set plan x st ps a (hand p Idle) (hand (holding p k) Idle) at in
    let e = same_slot-refl x in
    let here : if1 (at_slot x (plan.keys.unpack k)) ≡ 1 = rw (name, e) refl in
    let fresh : stale st x (plan.keys.unpack k) ≡ 0 = rw (name, e, now) refl in
    record { kinds = omega arith; counts = omega arith; none_lost = omega arith; owed = λ c d n. absurd (omega arith) }

pub get_due : (plan : Plan) (p : Body) (k : ℕ) (z : KeyRef) → plan.keys.unpack k ≡ Some z → (y : SlotRef) (st : Fields)
    → same_slot y (slot_ref_of z) ≡ false → due plan y st (hand (holding p k) Idle) ≡ due plan y st (hand p Idle)
unfolding total
get_due plan p k z name y st h =
    let a : if1 (at_slot y (plan.keys.unpack k)) ≡ 0 = rw (name, h) refl in
    let b : stale st y (plan.keys.unpack k) ≡ 0 = rw (name, h) refl in
    tally_ext _ _ refl refl (omega arith) refl (omega arith) refl

-- Mark: the pass that removes stays as a visitor
pub mark_adds_up : (r q : ℕ) (st : Fields) (plan : Plan) (ps : List Body) (a : ℕ) (p : Body) (k : ℕ) (y : KeyRef)
    → plan.keys.unpack k ≡ Some y → st.present ≡ true
    → slice_get ps a ≡ Some (hand p (Removing k)) → AddsUp r q st (tally plan (slot_ref_of y) st ps)
    → AddsUp r q (record st { marked = true }) (tally plan (slot_ref_of y) (record st { marked = true })
    (set ps a (hand p (Leaving (slot_ref_of y)))))
mark_adds_up r q st plan ps a p k y name there at f =
    let x : SlotRef = slot_ref_of y in
    let m = tally_set plan x st ps a (hand p (Removing k)) (hand p (Leaving x)) at in
    let e = same_slot-refl x in
    let one = if1_same_slot x in
    let was : if1 (at_slot x (plan.keys.unpack k)) ≡ 1 = rw (name, e) refl in
    let k1 : if1 (st.present || st.marked) ≡ 1 = rw there refl in
    let k2 : if1 (st.present || true) ≡ 1 = rw there refl in
    let v = total_at (visits plan x) ps a (hand p (Removing k)) at in
    record { kinds = omega arith; counts = omega arith; none_lost = omega arith; owed = λ c d n. absurd (omega arith) }

pub mark_due : (plan : Plan) (p : Body) (k : ℕ) (z : KeyRef) → plan.keys.unpack k ≡ Some z → (y : SlotRef) (st : Fields)
    → same_slot y (slot_ref_of z) ≡ false → due plan y st (hand p (Leaving (slot_ref_of z)))
    ≡ due plan y st (hand p (Removing k))
mark_due plan p k z name y st h = rw (name, h) refl

pub remove_due : (plan : Plan) (p : Body) (k : ℕ) (z : KeyRef) → plan.keys.unpack k ≡ Some z
    → (y : SlotRef) (st : Fields)
    → same_slot y (slot_ref_of z) ≡ false → due plan y st (hand p (Removing k)) ≡ due plan y st (hand p Idle)
remove_due plan p k z name y st h = rw (name, h) refl

-- Enter that continues to remove
pub remove_adds_up : (r q : ℕ) (st : Fields) (plan : Plan) (ps : List Body) (a : ℕ) (p : Body) (k : ℕ) (y : KeyRef)
    → plan.keys.unpack k ≡ Some y → current st (Some y) ≡ true
    → slice_get ps a ≡ Some (hand p Idle) → AddsUp r q st (tally plan (slot_ref_of y) st ps)
    → AddsUp r q (record st { count = st.count + 1 }) (tally plan (slot_ref_of y) (record st { count = st.count + 1 })
    (set ps a (hand p (Removing k))))
remove_adds_up r q st plan ps a p k y name now at f =
    let x : SlotRef = slot_ref_of y in
    let m = tally_set plan x st ps a (hand p Idle) (hand p (Removing k)) at in
    let e = same_slot-refl x in
    let here : if1 (at_slot x (plan.keys.unpack k)) ≡ 1 = rw (name, e) refl in
    let fresh : stale st x (plan.keys.unpack k) ≡ 0 = rw (name, e, now) refl in
    record { kinds = omega arith; counts = omega arith; none_lost = omega arith; owed = λ c d n. absurd (omega arith) }

-- Finish that succeeds: no pass is on the slot; it is the finisher's, or retired
abbrev pub reused_fields : ℕ → Fields
reused_fields g = record { generation = g + 1; marked = false; present = false; count = 0 }

pub finish_mine : (r q : ℕ) (st : Fields) (plan : Plan) (ps : List Body) (a : ℕ) (p : Body) (x : SlotRef) (g : ℕ) (s : Sight)
    → st.present ≡ true → st.count ≡ 0
    → slice_get ps a ≡ Some (hand p (Finishing x g s)) → AddsUp r q st (tally plan x st ps)
    → AddsUp r q (reused_fields g) (tally plan x (reused_fields g)
    (set ps a (hand (record p { mine = x ∷ p.mine }) Idle)))
unfolding total
finish_mine r q st plan ps a p x g s there none at f =
    let m = tally_set plan x (reused_fields g) ps a (hand p (Finishing x g s))
    (hand (record p { mine = x ∷ p.mine }) Idle) at in
    let one = if1_same_slot x in
    let k1 : if1 (st.present || st.marked) ≡ 1 = rw there refl in
    let few = lost_le plan x (reused_fields g) (set ps a (hand (record p { mine = x ∷ p.mine }) Idle)) in
    record { kinds = omega arith; counts = omega arith; none_lost = omega arith; owed = λ c d n. cc }

pub finish_hand : (r q : ℕ) (st : Fields) (plan : Plan) (ps : List Body) (a : ℕ) (p : Body) (x : SlotRef) (g : ℕ) (s : Sight)
    → st.present ≡ true → st.count ≡ 0
    → slice_get ps a ≡ Some (hand p (Finishing x g s)) → AddsUp r q st (tally plan x st ps)
    → AddsUp r q (reused_fields g) (tally plan x (reused_fields g) (set ps a (hand p (ToPut x))))
unfolding total
finish_hand r q st plan ps a p x g s there none at f =
    let m = tally_set plan x (reused_fields g) ps a (hand p (Finishing x g s)) (hand p (ToPut x)) at in
    let one = if1_same_slot x in
    let k1 : if1 (st.present || st.marked) ≡ 1 = rw there refl in
    let few = lost_le plan x (reused_fields g) (set ps a (hand p (ToPut x))) in
    record { kinds = omega arith; counts = omega arith; none_lost = omega arith; owed = λ c d n. cc }

-- Publish: the slot in the hand is Empty, and then Live
pub publish_adds_up : (r q : ℕ) (st : Fields) (plan : Plan) (ps : List Body) (a : ℕ) (p : Body) (x : SlotRef)
    (v : List ℕ) (i : ℕ) → r ≤ 1
    → slice_get ps a ≡ Some (hand p (Filling x v i)) → AddsUp r q st (tally plan x st ps)
    → AddsUp r q (record st { present = true }) (tally plan x (record st { present = true }) (set ps a (hand p Idle)))
publish_adds_up r q st plan ps a p x v i small at f =
    let st' : Fields = record st { present = true } in
    let m = tally_set plan x st' ps a (hand p (Filling x v i)) (hand p Idle) at in
    let one = if1_same_slot x in
    let mineless = total_at (in_hand x) ps a (hand p (Filling x v i)) at in
    let empty : if1 (st.present || st.marked) ≡ 0 = omega arith in
    let neither = if1_neither st.present st.marked empty in
    let few = lost_most plan x st st' ps neither.0 in
    record { kinds = omega arith; counts = omega arith; none_lost = omega arith; owed = λ c d n. cc }

-- Fill of a slot of `mine`
pub fill_adds_up : (r q : ℕ) (st : Fields) (plan : Plan) (ps : List Body) (a : ℕ) (p : Body) (x : SlotRef) (v : List ℕ)
    → has (same_slot x) p.mine ≡ true
    → slice_get ps a ≡ Some (hand p Idle) → AddsUp r q st (tally plan x st ps)
    → AddsUp r q st (tally plan x st (set ps a
    (hand (record p { mine = without (same_slot x) p.mine }) (Filling x v 0))))
fill_adds_up r q st plan ps a p x v is at f =
    let m = tally_set plan x st ps a (hand p Idle) (hand (record p { mine = without (same_slot x) p.mine })
    (Filling x v 0)) at in
    let one = if1_same_slot x in
    let less = total_without (λ y. if1 (same_slot x y)) (same_slot x) 1 (λ y h. rw h refl) p.mine is in
    record {
      kinds = omega arith;
      counts = omega arith;
      none_lost = omega arith;
      owed = λ c d n. let o = f.owed c d n
          in omega arith;
    }

-- Drop of a hold

named_by : (plan : Plan) (k : ℕ) (x : SlotRef) (f : Option KeyRef → ℕ) (n : ℕ) → f (plan.keys.unpack k) ≡ n → (j : ℕ)
    → (j == k) ≡ true → f (plan.keys.unpack j) ≡ n
named_by plan k x f n e j h = let i : j ≡ k = grind (arith, nat_tests) in rw i e

pub drop_key_adds_up : (b : Bool) (r q : ℕ) (st : Fields) (plan : Plan) (ps : List Body) (a : ℕ) (p : Body) (k : ℕ)
    (y : KeyRef) → plan.keys.unpack k ≡ Some y → has (λ j. j == k) p.holds ≡ true
    → slice_get ps a ≡ Some (hand p Idle) → AddsUp r q st (tally plan (slot_ref_of y) st ps) → 0 < st.count
    → (st.present && st.marked && (st.count == 1)) ≡ b
    → AddsUp r q (record st { count = st.count - 1 }) (tally plan (slot_ref_of y) (record st { count = st.count - 1 })
    (set ps a (hand (freed p k) (cond b (Finishing (slot_ref_of y) st.generation Bare) Idle))))
drop_key_adds_up true r q st plan ps a p k y name is at f some last =
    let x : SlotRef = slot_ref_of y in
    let m = tally_set plan x st ps a (hand p Idle) (hand (freed p k) (Finishing x st.generation Bare)) at in
    let e = same_slot-refl x in
    let there : if1 (same_slot x x && (st.generation == st.generation)) ≡ 1 = grind (arith, nat_tests) in
    let here : if1 (at_slot x (plan.keys.unpack k)) ≡ 1 = rw (name, e) refl in
    let less = total_without (λ j. if1 (at_slot x (plan.keys.unpack j))) (λ j. j == k) 1
    (named_by plan k x (λ o. if1 (at_slot x o)) 1 here) p.holds is in
    let less' = total_without (λ j. stale st x (plan.keys.unpack j)) (λ j. j == k) (stale st x (plan.keys.unpack k))
    (named_by plan k x (stale st x) (stale st x (plan.keys.unpack k)) refl) p.holds is in
    record { kinds = omega arith; counts = omega arith; none_lost = omega arith; owed = λ c d n. omega arith }
drop_key_adds_up false r q st plan ps a p k y name is at f some last =
    let x : SlotRef = slot_ref_of y in
    let m = tally_set plan x st ps a (hand p Idle) (hand (freed p k) Idle) at in
    let e = same_slot-refl x in
    let here : if1 (at_slot x (plan.keys.unpack k)) ≡ 1 = rw (name, e) refl in
    let less = total_without (λ j. if1 (at_slot x (plan.keys.unpack j))) (λ j. j == k) 1
    (named_by plan k x (λ o. if1 (at_slot x o)) 1 here) p.holds is in
    let less' = total_without (λ j. stale st x (plan.keys.unpack j)) (λ j. j == k) (stale st x (plan.keys.unpack k))
    (named_by plan k x (stale st x) (stale st x (plan.keys.unpack k)) refl) p.holds is in
    record {
      kinds = omega arith;
      counts = omega arith;
      none_lost = omega arith;
      owed = λ c d n. absurd
          (was_last st.present st.marked st.count c d some n last);
    }
