-- All that holds, over Finish, Enter remove and Drop of a hold.
use Rattle.std.proofs.Common.{◌≡◌, ℕ, ◌+◌, ◌-◌, ◌<◌, ◌==◌, ◌&&◌, Bool, true, false, cond, List, [], ◌∷◌, refl, ap}
use Rattle.std.proofs.Common.{subst, arith, Option, Some, None, slice_get}
use Rattle.std.proofs.lemmas.Bool.Decides.{nat_tests}
use Rattle.sh_history.specs.declared.entry.Entry.{Entry}
use Rattle.sh_history.specs.declared.entry.Entry.TheVariants.{Released}
use Rattle.sh_slots.specs.declared.hand.SlotRef.{SlotRef}
use Rattle.sh_slots.specs.declared.hand.KeyRef.{KeyRef}
use Rattle.sh_slots.specs.declared.hand.Hand.TheVariants.{Idle, Removing, Finishing, ToPut}
use Rattle.sh_slots.specs.declared.hand.Sight.{Sight}
use Rattle.sh_slots.specs.declared.hand.Sight.TheVariants.{Bare}
use Rattle.sh_core.specs.Words.{Words, write}
use Rattle.sh_shape.specs.declared.places.Place.TheVariants.{State}
use Rattle.sh_word.specs.Fields.{Fields, fields_of, word_of}
use Rattle.sh_step.specs.Plans.{Plan, Lawful}
use Rattle.sh_slots.specs.Slots.{same_slot, slot_ref_of, live_at, after_drop, marked_word}
use Rattle.sh_step.specs.Collections.{if1, has}
use Rattle.sh_step.specs.declared.body.Body.{Body}
use Rattle.sh_step.specs.Rows.{hand, freed, drop_key, enter_remove, finish, own}
use Rattle.sh_core.specs.Worlds.{World, apply, value_at}
use Rattle.sh_core.specs.Lists.{PutLists}
use Rattle.sh_core.specs.Tallies.{AddsUp, tally, due, held, room, queued, at_slot, current, stale}
use Rattle.sh_core.specs.Stories.{values, removals, removed_in, Story, KeysAgree}
use Rattle.sh_core.proofs.Slots.Permits.{Permits}
use Rattle.sh_core.specs.Sums.{Sums, FillAgrees}
use Rattle.sh_core.proofs.Sums.Totals.{total_at, total_without}
use Rattle.sh_word.proofs.Words.{fields_of-sub, fields_of-word_of}
use Rattle.sh_core.proofs.Slots.Slots.{slots_state, same_slot-refl, tally_ext}
use Rattle.sh_core.proofs.Slots.SlotSteps.{finish_hand, reused_fields, remove_adds_up, remove_due, drop_key_adds_up}
use Rattle.sh_core.proofs.Slots.SlotSteps.{fields_of-entered}
use Rattle.sh_core.proofs.Slots.Logs.{keys_state, keys_quiet, story_finish, live_parts}
use Rattle.sh_core.proofs.Slots.SumsStep.{sums_at}
use Rattle.sh_core.proofs.Slots.SlotSums.{keys_still, room_to_enter}
use Rattle.sh_core.proofs.Sums.ListCounts.{times_without, has_some, without_shorter}
use Rattle.sh_core.proofs.Sums.Tests.{cond_either}

-- the word that Finish looks for is that state
pub found_marked : (n g : ℕ) → (n == marked_word g) ≡ true → fields_of n
    ≡ record { generation = g; marked = true; present = true; count = 0 }
found_marked n g e = let i : n ≡ marked_word g = grind (arith, nat_tests)
    in rw i (fields_of-word_of (record { generation = g; marked = true; present = true; count = 0 }) (omega arith))

-- Enter of a remove that meets the live value
pub sums_enter_remove : (plan : Plan) (w : World) (l : PutLists) (a : ℕ) (p : Body) (k : ℕ) (y : KeyRef) → Lawful plan
    → Sums plan w l → slice_get w.parts a ≡ Some (hand p Idle) → plan.keys.unpack k ≡ Some y
    → live_at y.generation (w.words.state_at y.page y.slot) ≡ true
    → Sums plan (apply w a (enter_remove plan (hand p Idle) k y)) l
unfolding apply
sums_enter_remove plan w l a p k y laws g at name live =
    let few = room_to_enter plan w l (slot_ref_of y) laws g in
    let add = fields_of-entered n few in
    let c = live_parts (fields_of n).present (fields_of n).marked (fields_of n).generation y.generation live in
    let t : (y.generation == (fields_of n).generation) ≡ true = let d = c.2 in grind (arith, nat_tests) in
    let now : current (fields_of n) (Some y) ≡ true = rw (c.0, t) refl in
    rw live (sums_at plan w l l a (hand p Idle) (hand p (Removing k)) (write w.words (State y.page y.slot) (n + 1)) None
    g at
    (slots_state plan w.words w.parts l a (hand p Idle) (hand p (Removing k)) (slot_ref_of y) (n + 1) g.slots at
    (remove_due plan p k y name) (rw add (remove_adds_up _ _ (fields_of n) plan w.parts a p k y name now at
    (g.slots (slot_ref_of y)))))
    (keys_still plan w.words w.log (slot_ref_of y) (n + 1) g.keys (ap (λ (t : Fields). t.generation) add)
    (ap (λ (t : Fields). t.marked) add) (ap (λ (t : Fields). t.present) add)) tt (λ j. refl)
    ((g.parts a (hand p Idle) at).0, tt) (λ b q _ _ h. h)) where
      n : ℕ
      n = w.words.state_at y.page y.slot

pub finish_keys : (plan : Plan) (w : Words) (log : List Entry) (x : SlotRef) (g : ℕ) → KeysAgree plan w log
    → fields_of (w.state_at x.page x.slot) ≡ record { generation = g; marked = true; present = true; count = 0 }
    → KeysAgree plan (write w (State x.page x.slot) (word_of (reused_fields g))) log
finish_keys plan w log x g old is = keys_state plan w log log x (word_of (reused_fields g)) old
    (λ k z name h. (refl, refl))
    (λ k z name h.
    let P : SlotRef → Type 0 = λ y. Story (fields_of (w.state_at y.page y.slot)) z.generation (values k log)
    (removals k log) (value_at w y.page y.slot) in
    let s = subst P h (old k z name) in
    let Q : Fields → Type 0 = λ t. Story t z.generation (values k log) (removals k log) (value_at w x.page x.slot) in
    rw (fields_of-word_of (reused_fields g) (omega arith)) (story_finish
    (record { generation = g; marked = true; present = true; count = 0 }) z.generation (values k log)
    (removals k log) (value_at w x.page x.slot) (value_at w x.page x.slot) (subst Q is s) refl refl))

-- Finish that succeeds, of a slot of another's shard
pub sums_finish_hand : (plan : Plan) (w : World) (l : PutLists) (a : ℕ) (p : Body) (x : SlotRef) (g : ℕ) (s : Sight)
    → Sums plan w l
    → slice_get w.parts a ≡ Some (hand p (Finishing x g s)) → (w.words.state_at x.page x.slot == marked_word g) ≡ true
    → (g == plan.keys.gen_max) ≡ false → own plan p x.page ≡ false
    → Sums plan (apply w a (finish plan (hand p (Finishing x g s)) x g)) l
unfolding apply
sums_finish_hand plan w l a p x g s sums at is more other =
    let m = found_marked n g is in
    let f : AddsUp (room w.words x) (queued l x) (record { generation = g; marked = true; present = true; count = 0 })
    (tally plan x (record { generation = g; marked = true; present = true; count = 0 }) w.parts) =
    let P : Fields → Type 0 = λ s. AddsUp (room w.words x) (queued l x) s (tally plan x s w.parts)
    in subst P m (sums.slots x) in
    rw (is, more, other) (sums_at plan w l l a (hand p (Finishing x g s)) (hand p (ToPut x))
    (write w.words (State x.page x.slot) (word_of (reused_fields g))) None sums at
    (slots_state plan w.words w.parts l a (hand p (Finishing x g s)) (hand p (ToPut x)) x (word_of (reused_fields g))
    sums.slots at (λ y st h. rw h refl)
    (rw (fields_of-word_of (reused_fields g) (omega arith))
    (finish_hand _ _ (record { generation = g; marked = true; present = true; count = 0 }) plan w.parts a p x g s refl
    refl at f)))
    (finish_keys plan w.words w.log x g sums.keys m) tt (λ j. refl) ((sums.parts a (hand p (Finishing x g s)) at).0, tt)
    (λ b q _ _ h. h)) where
      n : ℕ
      n = w.words.state_at x.page x.slot

-- Drop of a hold
drop_key_due : (b : Bool) (g : ℕ) (plan : Plan) (p : Body) (k : ℕ) (z : KeyRef) → plan.keys.unpack k ≡ Some z
    → has (λ j. j == k) p.holds ≡ true → (y : SlotRef) (st : Fields) → same_slot y (slot_ref_of z) ≡ false
    → due plan y st (hand (freed p k) (cond b (Finishing (slot_ref_of z) g Bare) Idle)) ≡ due plan y st (hand p Idle)
drop_key_due b g plan p k z name is y st h =
    let one : (f : Option KeyRef → ℕ) → f (plan.keys.unpack k) ≡ 0 → (j : ℕ) → (j == k) ≡ true → f (plan.keys.unpack j)
    ≡ 0 = λ f e j t. let i : j ≡ k = grind (arith, nat_tests) in rw i e in
    let a : if1 (at_slot y (plan.keys.unpack k)) ≡ 0 = rw (name, h) refl in
    let c : stale st y (plan.keys.unpack k) ≡ 0 = rw (name, h) refl in
    let u = total_without (λ j. if1 (at_slot y (plan.keys.unpack j))) (λ j. j == k) 0 (one (λ o. if1 (at_slot y o)) a)
    p.holds is in
    let v = total_without (λ j. stale st y (plan.keys.unpack j)) (λ j. j == k) 0 (one (stale st y) c) p.holds is in
    let fin : if1 (same_slot y (slot_ref_of z) && (g == st.generation)) ≡ 0 = rw h refl in
    cond_either (λ u. due plan y st (hand (freed p k) u) ≡ due plan y st (hand p Idle)) b (Finishing (slot_ref_of z) g Bare)
    Idle
    (tally_ext (due plan y st (hand (freed p k) (Finishing (slot_ref_of z) g Bare))) (due plan y st (hand p Idle)) refl refl
    (omega arith) refl (omega arith) fin)
    (tally_ext (due plan y st (hand (freed p k) Idle)) (due plan y st (hand p Idle)) refl refl (omega arith) refl
    (omega arith) refl)

none_released : (a k j : ℕ) → (values j (Released a k ∷ []) ≡ []) × (removed_in j (Released a k) ≡ 0)
unfolding values
none_released a k j = (refl, refl)

-- a hold has been got and not released
pub released_permitted : (plan : Plan) (w : World) (l : PutLists) (a : ℕ) (p : Body) (k : ℕ) → Sums plan w l
    → slice_get w.parts a ≡ Some p → has (λ j. j == k) p.holds ≡ true → Permits plan w.log (Released a k)
released_permitted plan w l a p k g at is =
    let h = g.holds a p at k in
    let t = has_some (λ j. j == k) p.holds is in omega arith

pub sums_drop_key : (plan : Plan) (w : World) (l : PutLists) (a : ℕ) (p : Body) (k : ℕ) (y : KeyRef) → Sums plan w l
    → slice_get w.parts a ≡ Some (hand p Idle) → plan.keys.unpack k ≡ Some y → has (λ j. j == k) p.holds ≡ true
    → Sums plan (apply w a (drop_key (hand p Idle) k y)) l
unfolding apply
sums_drop_key plan w l a p k y g at name is =
    let x : SlotRef = slot_ref_of y in
    let f = g.slots x in
    let e = same_slot-refl x in
    let here : if1 (at_slot x (plan.keys.unpack k)) ≡ 1 = rw (name, e) refl in
    let less = total_without (λ j. if1 (at_slot x (plan.keys.unpack j))) (λ j. j == k) 1
    (λ j t. let i : j ≡ k = grind (arith, nat_tests) in rw i here) p.holds is in
    let h = total_at (held plan x) w.parts a (hand p Idle) at in
    let some : 0 < (fields_of n).count = omega arith in
    let sub = fields_of-sub n some in
    let sp = without_shorter (λ i. i == k) p.holds in
    let fw = (g.parts a (hand p Idle) at).0 in
    sums_at plan w l l a (hand p Idle) (hand (freed p k) (after_drop x n)) (write w.words (State y.page y.slot) (n - 1))
    (Some (Released a k)) g at
    (slots_state plan w.words w.parts l a (hand p Idle) (hand (freed p k) (after_drop x n)) x (n - 1) g.slots at
    (λ z st t. drop_key_due b (fields_of n).generation plan p k y name is z st t)
    (rw sub (drop_key_adds_up b _ _ (fields_of n) plan w.parts a p k y name is at f some refl)))
    (keys_quiet plan w.words w.log (Released a k) x (n - 1) g.keys (none_released a k)
    (ap (λ (t : Fields). t.generation) sub) (ap (λ (t : Fields). t.marked) sub)
    (ap (λ (t : Fields). t.present) sub))
    (released_permitted plan w l a (hand p Idle) k g at is) (
      refl,
      λ j. let t = times_without k j p.holds is
          in omega arith,
    ) (
      omega arith,
      cond_either (FillAgrees (write w.words (State y.page y.slot) (n - 1)) (hand (freed p k) (after_drop x n))) b
          (Finishing x (fields_of n).generation Bare) Idle tt tt,
    ) (λ c q _ _ h. h) where
      n : ℕ
      n = w.words.state_at y.page y.slot

      b : Bool
      b = (fields_of n).present && (fields_of n).marked && ((fields_of n).count == 1)
