-- The whole of what is kept, over one kind: Mark.
use Rattle.std.proofs.Common.{◌≡◌, ◌≢◌, ℕ, ◌^◌, ◌==◌, ◌&&◌, inr, Bool, true, false, cond, List, [], ◌∷◌, ◌++◌, set, sym}
use Rattle.std.proofs.Common.{refl, ap, ◌∙◌, subst, arith, Some, slice_get}
use Rattle.std.specs.Prelude.{not, bit_or}
use Rattle.std.proofs.lemmas.Bool.Decides.{nat_tests}
use Rattle.sh_history.specs.declared.entry.Entry.{Entry}
use Rattle.sh_history.specs.declared.entry.Entry.TheVariants.{Gone, Removed}
use Rattle.sh_slots.specs.declared.hand.SlotRef.{SlotRef}
use Rattle.sh_slots.specs.declared.hand.KeyRef.{KeyRef}
use Rattle.sh_slots.specs.declared.hand.Hand.TheVariants.{Removing, Leaving}
use Rattle.sh_core.specs.Words.{Words, write}
use Rattle.sh_shape.specs.declared.places.Place.TheVariants.{State}
use Rattle.sh_word.specs.Fields.{Fields, fields_of}
use Rattle.sh_step.specs.Plans.{Plan, Lawful}
use Rattle.sh_slots.specs.Slots.{same_slot, slot_ref_of}
use Rattle.sh_step.specs.Collections.{if1}
use Rattle.sh_step.specs.declared.body.Body.{Body}
use Rattle.sh_step.specs.Rows.{hand, mark}
use Rattle.sh_core.specs.Worlds.{World, apply, value_at}
use Rattle.sh_core.specs.Lists.{PutLists}
use Rattle.sh_core.specs.Tallies.{AddsUp, tally, lost, SlotsAddUp, stale}
use Rattle.sh_core.specs.Stories.{values, removals, Story, KeysAgree}
use Rattle.sh_core.proofs.Slots.Permits.{Permits}
use Rattle.sh_core.specs.Sums.{Sums}
use Rattle.sh_core.proofs.Sums.Totals.{total_at}
use Rattle.sh_word.proofs.Words.{fields_of-or_mark}
use Rattle.sh_core.proofs.Slots.SumsStep.{sums_at}
use Rattle.sh_core.proofs.Slots.Slots.{slots_state, same_slot-refl}
use Rattle.sh_core.proofs.Slots.SlotSteps.{mark_adds_up, mark_due}
use Rattle.sh_core.proofs.Slots.Logs.{values_none, removals_snoc, story_mark, keys_state, keys_quiet}

-- what a pass that removes k knows of its slot
pub is_current : (r q : ℕ) (st : Fields) (plan : Plan) (ps : List Body) (a : ℕ) (p : Body) (k : ℕ) (y : KeyRef)
    → plan.keys.unpack k ≡ Some y → slice_get ps a ≡ Some (hand p (Removing k))
    → AddsUp r q st (tally plan (slot_ref_of y) st ps)
    → (st.present ≡ true) × (y.generation ≡ st.generation)
is_current r q st plan ps a p k y name at f = parts st.present y.generation st.generation (rw (name, e) at zero) where
  e : same_slot (slot_ref_of y) (slot_ref_of y) ≡ true
  e = same_slot-refl (slot_ref_of y)

  zero : stale st (slot_ref_of y) (plan.keys.unpack k) ≡ 0
  zero = let t = total_at (lost plan (slot_ref_of y) st) ps a (hand p (Removing k)) at in omega arith

  parts : (b : Bool) (g h : ℕ) → if1 (not (b && (g == h))) ≡ 0 → (b ≡ true) × (g ≡ h)
  parts true g h c = (refl, grind (arith, nat_tests))
  parts false g h c = absurd (omega arith)

pub other_key : (plan : Plan) (k j : ℕ) (y z : KeyRef) → plan.keys.unpack k ≡ Some y → plan.keys.unpack j ≡ Some z
    → same_slot (slot_ref_of z) (slot_ref_of y) ≡ false → (k == j) ≡ false
other_key plan k j y z a b h = go (k == j) refl where
  go : (c : Bool) → (k == j) ≡ c → c ≡ false
  go false e = refl
  go true e =
      let i : k ≡ j = grind (arith, nat_tests) in
      let s : Some y ≡ Some z = cc in
      let n : y ≡ z = cc in
      absurd (let t : same_slot (slot_ref_of z) (slot_ref_of y) ≡ true = rw n (same_slot-refl (slot_ref_of z)) in cc)

pub same_key : (plan : Plan) (k j : ℕ) (y z : KeyRef) → Lawful plan → plan.keys.unpack k ≡ Some y → plan.keys.unpack j
    ≡ Some z → slot_ref_of z ≡ slot_ref_of y → z.generation ≡ y.generation → if1 (k == j) ≡ 1
same_key plan k j y z laws a b h g =
    let n : z ≡ y = λ i. record { page = (h i).page; slot = (h i).slot; generation = g i } in
    let e : k ≡ j = laws.keys k y a ∙ ap plan.keys.pack (sym n) ∙ sym (laws.keys j z b) in
    let t : (k == j) ≡ true = grind (arith, nat_tests) in rw t refl

pub apart_key : (plan : Plan) (k j : ℕ) (y z : KeyRef) → plan.keys.unpack k ≡ Some y → plan.keys.unpack j ≡ Some z
    → y.generation ≢ z.generation → if1 (k == j) ≡ 0
apart_key plan k j y z a b h = go (k == j) refl where
  go : (c : Bool) → (k == j) ≡ c → if1 c ≡ 0
  go false e = refl
  go true e =
      let i : k ≡ j = grind (arith, nat_tests) in
      let s : Some y ≡ Some z = cc in
      let n : y ≡ z = cc in absurd (h (ap (λ (m : KeyRef). m.generation) n))

pub mark_slots : (plan : Plan) (w : Words) (ps : List Body) (l : PutLists) (a : ℕ) (p : Body) (k : ℕ) (y : KeyRef)
    → plan.keys.unpack k ≡ Some y → SlotsAddUp plan w ps l → slice_get ps a ≡ Some (hand p (Removing k))
    → SlotsAddUp plan (write w (State y.page y.slot) (bit_or (w.state_at y.page y.slot) (2 ^ 31)))
    (set ps a (hand p (Leaving (slot_ref_of y)))) l
mark_slots plan w ps l a p k y name old at =
    let f = old (slot_ref_of y) in
    let c = is_current _ _ (fields_of n) plan ps a p k y name at f in
    slots_state plan w ps l a (hand p (Removing k)) (hand p (Leaving (slot_ref_of y))) (slot_ref_of y)
    (bit_or n (2 ^ 31)) old
    at (mark_due plan p k y name) (rw fields_of-or_mark (mark_adds_up _ _ (fields_of n) plan ps a p k y name c.0 at f))
  where
    n : ℕ
    n = w.state_at y.page y.slot

-- the log of Mark, by whether M was set
mark_keys : (b : Bool) (plan : Plan) (w : Words) (log : List Entry) (a k : ℕ) (y : KeyRef) → Lawful plan
    → plan.keys.unpack k ≡ Some y → KeysAgree plan w log → (fields_of (w.state_at y.page y.slot)).marked ≡ b
    → (fields_of (w.state_at y.page y.slot)).present ≡ true → y.generation
    ≡ (fields_of (w.state_at y.page y.slot)).generation
    → KeysAgree plan (write w (State y.page y.slot) (bit_or (w.state_at y.page y.slot) (2 ^ 31)))
    (log ++ cond b (Gone a k) (Removed a k) ∷ []) × Permits plan log (cond b (Gone a k) (Removed a k))
unfolding values
mark_keys true plan w log a k y laws name old m p gen =
    let same = ap (λ (s : Fields). s.marked) (fields_of-or_mark (w.state_at y.page y.slot)) ∙ sym m in
    let s = (old k y name).mark gen in
    let one : if1 (fields_of (w.state_at y.page y.slot)).marked ≡ 1 = rw m refl in (
      keys_quiet plan w log (Gone a k) (slot_ref_of y) (bit_or (w.state_at y.page y.slot) (2 ^ 31)) old
          (λ j. (refl, refl)) (ap (λ (t : Fields). t.generation) (fields_of-or_mark (w.state_at y.page y.slot))) same
          (ap (λ (t : Fields). t.present) (fields_of-or_mark (w.state_at y.page y.slot))),
      inr (omega arith),
    )
mark_keys false plan w log a k y laws name old m p gen =
    let n : ℕ = w.state_at y.page y.slot in
    let vs : (j : ℕ) → values j (log ++ Removed a k ∷ []) ≡ values j log = λ j. values_none j log (Removed a k) refl in
    let s = old k y name in
    let here = s.mark gen in
    let zero : if1 (fields_of n).marked ≡ 0 = rw m refl in
    let v = s.value gen (rw p refl) in (
      keys_state plan w log (log ++ Removed a k ∷ []) (slot_ref_of y) (bit_or n (2 ^ 31)) old
          (λ j z is h. let o = other_key plan k j y z name is h in let none : if1 (k == j) ≡ 0 = rw o refl
          in (vs j, omega (arith, removals_snoc j log (Removed a k))))
          (λ j z is h.
          let P : SlotRef → Type 0 = λ x. Story (fields_of (w.state_at x.page x.slot)) z.generation (values j log)
          (removals j log) (value_at w x.page x.slot) in
          let t = subst P h (old j z is) in
          rw (fields_of-or_mark n, vs j, removals_snoc j log (Removed a k))
          (story_mark (fields_of n) z.generation (values j log) (removals j log) (if1 (k == j))
          (value_at w y.page y.slot) t m p
          (λ e. same_key plan k j y z laws name is h (e ∙ sym gen))
          (λ e. apart_key plan k j y z name is (λ c. e (sym c ∙ gen))))),
      (rw v (omega arith), omega arith),
    )

sums_marked : (b : Bool) (plan : Plan) (w : World) (l : PutLists) (a : ℕ) (p : Body) (k : ℕ) (y : KeyRef) → Lawful plan
    → Sums plan w l → slice_get w.parts a ≡ Some (hand p (Removing k)) → plan.keys.unpack k ≡ Some y
    → (fields_of (w.words.state_at y.page y.slot)).marked ≡ b
    → Sums plan (apply w a (mark (hand p (Removing k)) k y)) l
unfolding apply
sums_marked true plan w l a p k y laws g at name m =
    let n : ℕ = w.words.state_at y.page y.slot in
    let c = is_current _ _ (fields_of n) plan w.parts a p k y name at (g.slots (slot_ref_of y)) in
    let ks = mark_keys true plan w.words w.log a k y laws name g.keys m c.0 c.1 in
    rw m (sums_at plan w l l a (hand p (Removing k)) (hand p (Leaving (slot_ref_of y)))
    (write w.words (State y.page y.slot) (bit_or n (2 ^ 31))) (Some (Gone a k)) g at
    (mark_slots plan w.words w.parts l a p k y name g.slots at) ks.0 ks.1 (refl, λ j. refl)
    ((g.parts a (hand p (Removing k)) at).0, tt) (λ b q _ _ h. h))
sums_marked false plan w l a p k y laws g at name m =
    let n : ℕ = w.words.state_at y.page y.slot in
    let c = is_current _ _ (fields_of n) plan w.parts a p k y name at (g.slots (slot_ref_of y)) in
    let ks = mark_keys false plan w.words w.log a k y laws name g.keys m c.0 c.1 in
    rw m (sums_at plan w l l a (hand p (Removing k)) (hand p (Leaving (slot_ref_of y)))
    (write w.words (State y.page y.slot) (bit_or n (2 ^ 31))) (Some (Removed a k)) g at
    (mark_slots plan w.words w.parts l a p k y name g.slots at) ks.0 ks.1 (refl, λ j. refl)
    ((g.parts a (hand p (Removing k)) at).0, tt) (λ b q _ _ h. h))

pub sums_mark : (plan : Plan) (w : World) (l : PutLists) (a : ℕ) (p : Body) (k : ℕ) (y : KeyRef) → Lawful plan
    → Sums plan w l → slice_get w.parts a ≡ Some (hand p (Removing k)) → plan.keys.unpack k ≡ Some y
    → Sums plan (apply w a (mark (hand p (Removing k)) k y)) l
sums_mark plan w l a p k y laws g at name = sums_marked (fields_of (w.words.state_at y.page y.slot)).marked plan w l a p
    k y laws g at name refl
