-- All that holds, over the kinds that step on a state word.
use Rattle.std.proofs.Common.{◌≡◌, ℕ, ◌+◌, ◌-◌, ◌*◌, ◌^◌, ◌<◌, ◌≤◌, ◌==◌, ◌&&◌, true, false, List, [], ◌∷◌, ◌++◌}
use Rattle.std.proofs.Common.{length, sym, refl, ap, ◌∙◌, subst, arith, Some, None, slice_get}
use Rattle.std.specs.Prelude.{nat_lt, bit_or}
use Rattle.std.proofs.lemmas.List.{take_all}
use Rattle.std.proofs.lemmas.Bool.Decides.{nat_tests}
use Rattle.sh_history.specs.declared.entry.Entry.{Entry}
use Rattle.sh_history.specs.declared.entry.Entry.TheVariants.{Insert, Got, Gone}
use Rattle.sh_slots.specs.declared.hand.SlotRef.{SlotRef}
use Rattle.sh_slots.specs.declared.hand.KeyRef.{KeyRef}
use Rattle.sh_slots.specs.declared.hand.Hand.{Hand}
use Rattle.sh_slots.specs.declared.hand.Hand.TheVariants.{Idle, Removing, Leaving, Finishing, Filling}
use Rattle.sh_core.specs.Words.{Words, write}
use Rattle.sh_shape.specs.declared.places.Place.TheVariants.{State}
use Rattle.sh_word.specs.Fields.{Fields, fields_of}
use Rattle.sh_step.specs.Plans.{Plan, Lawful}
use Rattle.sh_shape.specs.Classes.{width, slots}
use Rattle.sh_slots.specs.Slots.{same_slot, slot_ref_of, name_at, live_at, after_drop}
use Rattle.sh_step.specs.Collections.{total, if1}
use Rattle.sh_step.specs.declared.body.Body.{Body}
use Rattle.sh_step.specs.Rows.{hand, drop_hand, enter_get, publish}
use Rattle.sh_core.specs.Worlds.{World, apply, value_at, words_from}
use Rattle.sh_core.specs.Lists.{PutLists, in_hand}
use Rattle.sh_core.specs.Tallies.{AddsUp, tally, due, held, visits, room, queued, at_slot, current}
use Rattle.sh_core.specs.Stories.{values, removals, removed_in, Story, KeysAgree}
use Rattle.sh_core.specs.Sums.{Sums, FillAgrees}
use Rattle.sh_core.proofs.Sums.Totals.{total_at, total_few, total_length}
use Rattle.sh_word.proofs.Words.{fields_of-sub, fields_of-or_present}
use Rattle.sh_core.proofs.Slots.Slots.{slots_state, if1_same_slot}
use Rattle.sh_core.proofs.Slots.SlotSteps.{drop_slots, leaving, enter_slots, get_adds_up, get_due, holding}
use Rattle.sh_core.proofs.Slots.SlotSteps.{publish_adds_up, fields_of-entered}
use Rattle.sh_core.proofs.Slots.Logs.{keys_state, keys_quiet, story_same, story_publish, gone_permitted, got_permitted}
use Rattle.sh_core.proofs.Slots.Logs.{values_append, values_none, removals_snoc, live_parts}
use Rattle.sh_core.proofs.Slots.MarkStep.{same_key, apart_key, other_key}
use Rattle.sh_core.proofs.Slots.SumsStep.{sums_at}
use Rattle.sh_core.proofs.Sums.Tests.{if1_few, if1_one, if1_none, if1_neither, cond_either}
use Rattle.sh_slots.specs.declared.hand.Sight.TheVariants.{Bare}

-- a step that leaves generation, M and P, with no entry
pub keys_still : (plan : Plan) (w : Words) (log : List Entry) (x : SlotRef) (n : ℕ) → KeysAgree plan w log
    → (fields_of n).generation ≡ (fields_of (w.state_at x.page x.slot)).generation → (fields_of n).marked
    ≡ (fields_of (w.state_at x.page x.slot)).marked → (fields_of n).present
    ≡ (fields_of (w.state_at x.page x.slot)).present
    → KeysAgree plan (write w (State x.page x.slot) n) log
keys_still plan w log x n old a b c =
    keys_state plan w log log x n old (λ k z name h. (refl, refl)) (λ k z name h.
    let P : SlotRef → Type 0 = λ y. Story (fields_of (w.state_at y.page y.slot)) z.generation (values k log)
    (removals k log) (value_at w y.page y.slot) in
    story_same (fields_of (w.state_at x.page x.slot)) (fields_of n) z.generation (values k log) (removals k log)
    (value_at w x.page x.slot) a b c (subst P h (old k z name)))

-- Drop of a visit
pub sums_drop : (plan : Plan) (w : World) (l : PutLists) (a : ℕ) (p : Body) (x : SlotRef) → Sums plan w l
    → slice_get w.parts a ≡ Some (hand p (Leaving x)) → Sums plan (apply w a (drop_hand (hand p (Leaving x)) x)) l
unfolding apply
sums_drop plan w l a p x g at =
    let f = g.slots x in
    let v = leaving plan w.parts a p x at in
    let some : 0 < (fields_of n).count = omega arith in
    sums_at plan w l l a (hand p (Leaving x)) (hand p (after_drop x n)) (write w.words (State x.page x.slot) (n - 1))
    None g at
    (drop_slots plan w.words w.parts l a p x g.slots at)
    (keys_still plan w.words w.log x (n - 1) g.keys (ap (λ (t : Fields). t.generation) (fields_of-sub n some))
    (ap (λ (t : Fields). t.marked) (fields_of-sub n some)) (ap (λ (t : Fields). t.present) (fields_of-sub n some)))
    tt (λ k. refl) (
      (g.parts a (hand p (Leaving x)) at).0,
      cond_either (FillAgrees (write w.words (State x.page x.slot) (n - 1)) (hand p (after_drop x n)))
          ((fields_of n).present && (fields_of n).marked && ((fields_of n).count == 1))
          (Finishing x (fields_of n).generation Bare) Idle tt tt,
    ) (λ b q _ _ h. h) where
      n : ℕ
      n = w.words.state_at x.page x.slot

pub visits_few : (plan : Plan) (x : SlotRef) (p : Body) (h : Hand) → visits plan x (hand p h) ≤ 1
visits_few plan x p (Removing k) = if1_few (at_slot x (plan.keys.unpack k))
visits_few plan x p (Leaving y) = if1_few (same_slot x y)
visits_few plan x p _ = omega arith

pub room_to_enter : (plan : Plan) (w : World) (l : PutLists) (x : SlotRef) → Lawful plan → Sums plan w l
    → (fields_of (w.words.state_at x.page x.slot)).count + 1 < 2 ^ 30
room_to_enter plan w l x laws g =
    let f = g.slots x in
    let h = total_few (held plan x) 16 w.parts (λ a p at. let n = total_length
    (λ k. if1 (at_slot x (plan.keys.unpack k))) (λ k. if1_few (at_slot x (plan.keys.unpack k))) p.holds
    in let m = (g.parts a p at).0 in omega arith) in
    let v = total_length (visits plan x) (λ p. visits_few plan x p p.hand) w.parts in
    let n = g.passes in
    let m = laws.passes in omega arith

pub none_gone : (a k j : ℕ) → (values j (Gone a k ∷ []) ≡ []) × (removed_in j (Gone a k) ≡ 0)
unfolding values
none_gone a k j = (refl, refl)

none_got : (a k : ℕ) (v : List ℕ) (j : ℕ) → (values j (Got a k v ∷ []) ≡ []) × (removed_in j (Got a k v) ≡ 0)
unfolding values
none_got a k v j = (refl, refl)

-- Enter of a get that meets no live value of its key
pub sums_gone : (plan : Plan) (w : World) (l : PutLists) (a : ℕ) (p : Body) (k : ℕ) (y : KeyRef) → Lawful plan
    → Sums plan w l → slice_get w.parts a ≡ Some (hand p Idle) → plan.keys.unpack k ≡ Some y
    → live_at y.generation (w.words.state_at y.page y.slot) ≡ false
    → Sums plan (apply w a (enter_get plan (hand p Idle) k y)) l
unfolding apply
sums_gone plan w l a p k y laws g at name dead =
    let few = room_to_enter plan w l (slot_ref_of y) laws g in
    let add = fields_of-entered n few in
    rw dead (sums_at plan w l l a (hand p Idle) (hand p (Leaving (slot_ref_of y)))
    (write w.words (State y.page y.slot) (n + 1)) (Some (Gone a k)) g at
    (enter_slots plan w.words w.parts l a p (slot_ref_of y) g.slots at few)
    (keys_quiet plan w.words w.log (Gone a k) (slot_ref_of y) (n + 1) g.keys (none_gone a k)
    (ap (λ (t : Fields). t.generation) add) (ap (λ (t : Fields). t.marked) add)
    (ap (λ (t : Fields). t.present) add))
    (gone_permitted plan w.log a k y n (value_at w.words y.page y.slot) (g.keys k y name) dead) (refl, λ j. refl)
    ((g.parts a (hand p Idle) at).0, tt) (λ b q _ _ h. h)) where
      n : ℕ
      n = w.words.state_at y.page y.slot

-- Enter of a get that takes a hold
pub sums_got : (plan : Plan) (w : World) (l : PutLists) (a : ℕ) (p : Body) (k : ℕ) (y : KeyRef) → Lawful plan
    → Sums plan w l → slice_get w.parts a ≡ Some (hand p Idle) → plan.keys.unpack k ≡ Some y → length p.holds < 16
    → live_at y.generation (w.words.state_at y.page y.slot) ≡ true
    → nat_lt (fields_of (w.words.state_at y.page y.slot)).count plan.keys.guard_max ≡ true
    → Sums plan (apply w a (enter_get plan (hand p Idle) k y)) l
unfolding apply total
sums_got plan w l a p k y laws g at name fewer live under =
    let few = room_to_enter plan w l (slot_ref_of y) laws g in
    let add = fields_of-entered n few in
    let c = live_parts (fields_of n).present (fields_of n).marked (fields_of n).generation y.generation live in
    let t : (y.generation == (fields_of n).generation) ≡ true = let d = c.2 in grind (arith, nat_tests) in
    let now : current (fields_of n) (Some y) ≡ true = rw (c.0, t) refl in
    rw (live, under) (sums_at plan w l l a (hand p Idle) (hand (holding p k) Idle)
    (write w.words (State y.page y.slot) (n + 1)) (Some (Got a k (value_at w.words y.page y.slot))) g at
    (slots_state plan w.words w.parts l a (hand p Idle) (hand (holding p k) Idle) (slot_ref_of y) (n + 1) g.slots at
    (get_due plan p k y name) (rw add (get_adds_up _ _ (fields_of n) plan w.parts a p k y name now at
    (g.slots (slot_ref_of y)))))
    (keys_quiet plan w.words w.log (Got a k (value_at w.words y.page y.slot)) (slot_ref_of y) (n + 1) g.keys
    (none_got a k _) (ap (λ (t : Fields). t.generation) add) (ap (λ (t : Fields). t.marked) add)
    (ap (λ (t : Fields). t.present) add))
    (got_permitted plan w.log a k y n (value_at w.words y.page y.slot) (g.keys k y name) live) (refl, λ j. omega arith)
    (omega arith, tt) (λ b q _ _ h. h)) where
      n : ℕ
      n = w.words.state_at y.page y.slot

-- Publish: the value that was filled is inserted under a key that was never issued
filled_value : (w : Words) (p : Body) (x : SlotRef) (v : List ℕ) (i : ℕ) → FillAgrees w p (Filling x v i) → length v ≤ i
    → value_at w x.page x.slot ≡ v
unfolding value_at
filled_value w p x v i f all =
    let same : i ≡ length v = let b = f.begun in omega arith in
    let t : words_from (w.payload_at x.page) (x.slot * width (w.class_at x.page - 1)) i ≡ v = f.so_far
    ∙ take_all i v (omega arith) in
    rw (f.length_is, ← same) t

pub room_few : (w : Words) (x : SlotRef) → room w x ≤ 1
room_few w x = if1_few (nat_lt 0 (w.class_at x.page) && nat_lt x.slot (slots (w.class_at x.page - 1)))

-- the slot in the hand is Empty
empty : (plan : Plan) (ps : List Body) (a : ℕ) (p : Body) (x : SlotRef) (v : List ℕ) (i r q : ℕ) (st : Fields)
    → slice_get ps a ≡ Some (hand p (Filling x v i)) → AddsUp r q st (tally plan x st ps) → r ≤ 1 → (st.present ≡ false)
    × (st.marked ≡ false)
empty plan ps a p x v i r q st at f small =
    let one = if1_same_slot x in
    let t = total_at (in_hand x) ps a (hand p (Filling x v i)) at in
    if1_neither st.present st.marked (omega arith)

publish_due : (plan : Plan) (p : Body) (x y : SlotRef) (v : List ℕ) (i : ℕ) (st : Fields) → same_slot y x ≡ false
    → due plan y st (hand p Idle) ≡ due plan y st (hand p (Filling x v i))
publish_due plan p x y v i st h = rw h refl

values_one : (a k : ℕ) (v : List ℕ) (j : ℕ) → (k == j) ≡ true → values j (Insert a k v ∷ []) ≡ v ∷ []
unfolding values
values_one a k v j e = rw e refl

values_zero : (a k : ℕ) (v : List ℕ) (j : ℕ) → (k == j) ≡ false → values j (Insert a k v ∷ []) ≡ []
unfolding values
values_zero a k v j e = rw e refl

publish_keys : (plan : Plan) (w : Words) (log : List Entry) (a k : ℕ) (v : List ℕ) (x : SlotRef) (y : KeyRef)
    → Lawful plan
    → plan.keys.unpack k ≡ Some y → KeysAgree plan w log → slot_ref_of y ≡ x → y.generation
    ≡ (fields_of (w.state_at x.page x.slot)).generation
    → (fields_of (w.state_at x.page x.slot)).marked ≡ false → (fields_of (w.state_at x.page x.slot)).present ≡ false
    → value_at w x.page x.slot ≡ v → KeysAgree plan (write w (State x.page x.slot)
    (bit_or (w.state_at x.page x.slot) (2 ^ 30))) (log ++ Insert a k v ∷ [])
publish_keys plan w log a k v x y laws name old is gen m p now =
    let n : ℕ = w.state_at x.page x.slot in
    keys_state plan w log (log ++ Insert a k v ∷ []) x (bit_or n (2 ^ 30)) old
    (λ j z u h.
    let o = other_key plan k j y z name u (ap (same_slot (slot_ref_of z)) is ∙ h)
    in (
      values_none j log (Insert a k v) (values_zero a k v j o),
      omega
          (arith, removals_snoc j log (Insert a k v)),
    ))
    (λ j z u h.
    let P : SlotRef → Type 0 = λ s. Story (fields_of (w.state_at s.page s.slot)) z.generation (values j log)
    (removals j log) (value_at w s.page s.slot) in
    let t = subst P h (old j z u) in
    let r : removals j (log ++ Insert a k v ∷ []) ≡ removals j log = omega (arith, removals_snoc j log (Insert a k v))
    in
    rw (fields_of-or_present n, r, values_append j log (Insert a k v ∷ []))
    (story_publish (fields_of n) z.generation (values j log) (values j (Insert a k v ∷ [])) (removals j log)
    (value_at w x.page x.slot) t m p
    (λ e. rw now (values_one a k v j (if1_one (k == j) (same_key plan k j y z laws name u (h ∙ sym is) (e ∙ sym gen)))))
    (λ e. values_zero a k v j (if1_none (k == j) (apart_key plan k j y z name u (λ c. e (sym c ∙ gen)))))))

pub sums_publish : (plan : Plan) (w : World) (l : PutLists) (a : ℕ) (p : Body) (x : SlotRef) (v : List ℕ) (i : ℕ)
    → Lawful plan → Sums plan w l → slice_get w.parts a ≡ Some (hand p (Filling x v i)) → length v ≤ i
    → plan.keys.unpack (plan.keys.pack (name_at x (fields_of (w.words.state_at x.page x.slot)).generation))
    ≡ Some (name_at x (fields_of (w.words.state_at x.page x.slot)).generation)
    → Sums plan (apply w a (publish plan (hand p (Filling x v i)) x v)) l
unfolding apply
sums_publish plan w l a p x v i laws g at all name =
    let f = g.slots x in
    let pub_at = fields_of-or_present n in
    let c = empty plan w.parts a p x v i (room w.words x) (queued l x) (fields_of n) at f (room_few w.words x) in
    let now : value_at w.words x.page x.slot ≡ v = filled_value w.words (hand p (Filling x v i)) x v i
    (g.parts a (hand p (Filling x v i)) at).1 all in
    sums_at plan w l l a (hand p (Filling x v i)) (hand p Idle)
    (write w.words (State x.page x.slot) (bit_or n (2 ^ 30))) (Some (Insert a k v)) g at
    (slots_state plan w.words w.parts l a (hand p (Filling x v i)) (hand p Idle) x (bit_or n (2 ^ 30)) g.slots at
    (λ y st h. publish_due plan p x y v i st h) (rw pub_at
    (publish_adds_up _ _ (fields_of n) plan w.parts a p x v i (room_few w.words x) at f)))
    (publish_keys plan w.words w.log a k v x y laws name g.keys refl refl c.1 c.0 now)
    ((g.keys k (name_at x (fields_of n).generation) name).fresh refl (rw (c.0, c.1) refl))
    (refl, λ j. refl) ((g.parts a (hand p (Filling x v i)) at).0, tt) (λ b q _ _ h. h) where
      n : ℕ
      n = w.words.state_at x.page x.slot

      y : KeyRef
      y = name_at x (fields_of n).generation

      k : ℕ
      k = plan.keys.pack y
