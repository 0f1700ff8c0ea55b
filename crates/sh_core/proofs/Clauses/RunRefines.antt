-- The clauses of the theorem, from what is kept.
use Rattle.std.proofs.Common.{◌≡◌, ℕ, ◌+◌, ◌<◌, ◌≤◌, ◌==◌, ◌&&◌, Bool, true, false, cond, List, [], ◌∷◌, sym, refl}
use Rattle.std.proofs.Common.{subst, arith, Some, slice_get, eqb-true}
use Rattle.std.specs.Prelude.{not}
use Rattle.sh_slots.specs.declared.hand.SlotRef.{SlotRef}
use Rattle.sh_slots.specs.declared.hand.KeyRef.{KeyRef}
use Rattle.sh_word.specs.Fields.{Fields, fields_of}
use Rattle.sh_step.specs.Plans.{Plan, shard_of, Lawful, over_heap}
use Rattle.sh_slots.specs.Slots.{slot_ref_of}
use Rattle.sh_step.specs.Collections.{total, if1}
use Rattle.sh_step.specs.declared.body.Body.{Body}
use Rattle.sh_core.specs.Lists.{PutLists, times, no_lists, state_of}
use Rattle.sh_core.specs.Stacks.{slot_ref, ties_of, cursor_at, ring_ties, bell_cursor_at}
use Rattle.sh_core.specs.Bells.{rings, armed_at, owns}
use Rattle.sh_core.specs.Placed.{OwnNotesOf, Agreement}
use Rattle.sh_core.specs.Worlds.{World, open_world, value_at}
use Rattle.sh_core.specs.Tallies.{held, lost, at_slot, current, stale}
use Rattle.sh_core.specs.Stories.{values}
use Rattle.sh_core.specs.Reads.{AllReadsAgree}
use Rattle.sh_core.specs.Refines.{OneKind, HeldKeysAreValid, Counted, holds_now}
use Rattle.sh_core.proofs.Sums.Totals.{total_at, total_plus, zero_all, total_le}
use Rattle.sh_core.proofs.Slots.Slots.{same_slot-refl}
use Rattle.sh_core.proofs.Slots.CrowdedAndClass.{three}
use Rattle.sh_core.proofs.Slots.Permits.{value_one}
use Rattle.sh_core.proofs.Sums.ClassSlots.{room_is}
use Rattle.sh_core.proofs.Clauses.OpenSums.{sums_open, none_new, part_new}
use Rattle.sh_core.proofs.Sums.PageNumbers.{over_none}

pub all_open : (plan : Plan) → Lawful plan → Agreement plan (open_world plan) no_lists
unfolding total fields_of
all_open plan laws = record {
  sums = sums_open plan laws;
  lists = record {
    stacks = record {
      tops = λ q. refl;
      stacks = λ q. tt;
      chains = λ q. tt;
      ties = λ q s. let z = none_new
          (ties_of (slot_ref q s)) plan.passes refl in omega arith;
      cursors = λ q s. none_new (cursor_at q s) plan.passes refl;
    };
    bells = record {
      tops = λ q. over_none plan q 1 (omega arith);
      stacks = λ q. tt;
      chains = λ q. tt;
      ties = λ n q. let
          z = none_new (ring_ties plan n q) plan.passes refl in let y = no_link n q (n == shard_of plan q)
          in let x = over_none plan n 2 (omega arith) in omega arith;
      cursors = λ q s. none_new (bell_cursor_at q s)
          plan.passes refl;
    };
    duty = λ q. let x = none_new (armed_at q) plan.passes refl in let y = none_new (rings q) plan.passes refl
        in (omega arith, omega arith);
    owned = λ n. let x = none_new (owns n) plan.passes refl in (sym x, omega arith);
    own_notes = λ a p at. let e = part_new plan.passes a p at in
        let P : Body → Type 0 = λ u. OwnNotesOf plan (λ _. 0) u in
        subst P e (record {
          mines = λ x h. refl;
          points = λ q s h. refl;
          arms = λ q h. refl;
          bell = λ h. refl;
          notes = λ
              q c h. absurd (let z : false ≡ true = h in cc);
        });
  };
  bounds = let g = laws.generations in record {
    generations = λ q s. (omega arith, omega arith);
    classes = λ q.
        (omega arith, λ h. absurd (omega arith));
    lengths = λ q s h. absurd (let z : false ≡ true = h in cc);
  };
} where
  no_link : (n q : ℕ) (b : Bool) → if1 (not (cond {A = ℕ} b (over_heap plan n 2 0) 0 == 0)) ≡ 0
  no_link n q true = rw (over_none plan n 2 (omega arith)) refl
  no_link n q false = refl

module _ (plan : Plan) (w : World) (l : PutLists) (all : Agreement plan w l) where
  pub one_kind : OneKind w l
  one_kind x =
      let fine = all.sums.slots x in
      let states = three (state_of w x).present (state_of w x).marked in
      let is = room_is (w.words.class_at x.page) x.slot in omega arith

  some_total : {A : Type 0} (f g : A → ℕ) → ((x : A) → g x ≡ 0 → f x ≡ 0) → (xs : List A) → total g xs ≡ 0 → total f xs
      ≡ 0
  some_total f g h xs e = zero_all f g xs (λ j x _. h x) e

  pub held_stands : (a : ℕ) (p : Body) (k : ℕ) (n : KeyRef) → slice_get w.parts a ≡ Some p → 0 < times k p.holds
      → plan.keys.unpack k ≡ Some n →
      ((state_of w (slot_ref_of n)).present ≡ true) × ((state_of w (slot_ref_of n)).generation ≡ n.generation)
      × (values k w.log ≡ value_at w.words n.page n.slot ∷ [])
  held_stands a p k n at some name = go (current st (Some n)) refl where
    x : SlotRef
    x = slot_ref_of n

    st : Fields
    st = state_of w x

    none : total (λ j. stale st x (plan.keys.unpack j)) p.holds ≡ 0
    none = let f = all.sums.slots x in let t = total_at (lost plan x st) w.parts a p at in omega arith

    here : (j : ℕ) → stale st x (plan.keys.unpack j) ≡ 0 → current st (Some n) ≡ false → if1 (j == k) ≡ 0
    here j z c = at_key (j == k) refl where
      at_key : (b : Bool) → (j == k) ≡ b → if1 b ≡ 0
      at_key false e = refl
      at_key true e =
          let i = eqb-true j k e in
          let s : stale st x (plan.keys.unpack j) ≡ 1 = rw (i, name, same_slot-refl x, c) refl in absurd (omega arith)

    parts : (b : Bool) (g h : ℕ) → (b && (g == h)) ≡ true → (b ≡ true) × (h ≡ g)
    parts true g h e = (refl, sym (eqb-true g h e))
    parts false g h e = absurd (let z : false ≡ true = e in cc)

    go : (b : Bool) → current st (Some n) ≡ b → (st.present ≡ true) × (st.generation ≡ n.generation)
        × (values k w.log ≡ value_at w.words n.page n.slot ∷ [])
    go false c = absurd (let z = some_total (λ j. if1 (j == k)) (λ j. stale st x (plan.keys.unpack j))
        (λ j z. here j z c) p.holds none in omega arith)
    go true c =
        let d = parts st.present n.generation st.generation c in
        (d.0, d.1, (all.sums.keys k n name).value (sym d.1) (rw d.0 refl))

  pub held_keys : AllReadsAgree plan w → HeldKeysAreValid plan w
  held_keys know a p k at some =
      let n = (know a p at).named k some in
      let h = held_stands a p k n.0 at some n.1 in
      record {
        name = n.0;
        unpacks = n.1;
        page = n.2;
        slot = n.3;
        present = h.0;
        generation = h.1;
        value = value_one k w.log (value_at w.words n.0.page n.0.slot) h.2;
      }

  pub counted : Counted plan w
  counted x =
      let f = all.sums.slots x in
      let st : Fields = state_of w x in
      let t : total (held plan x) w.parts ≤ total (λ p. holds_now plan x st p + lost plan x st p) w.parts =
      total_le (held plan x) (λ p. holds_now plan x st p + lost plan x st p)
      (λ p. each p) w.parts in
      let u = total_plus (holds_now plan x st) (lost plan x st) w.parts in
      let v = total_le (holds_now plan x st) (held plan x) (λ p. fewer p) w.parts
      in omega arith where
        split : (b c : Bool) → cond b 1 0 ≡ cond (b && c) 1 0 + cond b (cond (not c) 1 0) 0
        split true true = refl
        split true false = refl
        split false c = refl

        each : (p : Body) → held plan x p ≤ holds_now plan x (state_of w x) p + lost plan x (state_of w x) p
        each p =
            let st : Fields = state_of w x in
            let t = total_le (λ k. if1 (at_slot x (plan.keys.unpack k)))
            (λ k. if1 (at_slot x (plan.keys.unpack k) && current st (plan.keys.unpack k)) + stale st x
            (plan.keys.unpack k))
            (λ k. let s = split (at_slot x (plan.keys.unpack k)) (current st (plan.keys.unpack k)) in omega arith)
            p.holds in
            let u = total_plus (λ k. if1 (at_slot x (plan.keys.unpack k) && current st (plan.keys.unpack k)))
            (λ k. stale st x (plan.keys.unpack k)) p.holds in omega arith

        fewer : (p : Body) → holds_now plan x (state_of w x) p ≤ held plan x p
        fewer p = let st : Fields = state_of w x in total_le
            (λ k. if1 (at_slot x (plan.keys.unpack k) && current st (plan.keys.unpack k)))
            (λ k. if1 (at_slot x (plan.keys.unpack k)))
            (λ k. let s = split (at_slot x (plan.keys.unpack k)) (current st (plan.keys.unpack k)) in omega arith)
            p.holds
