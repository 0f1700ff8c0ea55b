-- All that holds of slots and keys, over the kinds that put, take, follow, and those that change neither.
use Rattle.std.proofs.Common.{◌≡◌, ℕ, ◌+◌, ◌<◌, ◌==◌, ◌&&◌, Bool, true, false, [], ◌∷◌, set, drop, sym, refl, ap, ◌∙◌}
use Rattle.std.proofs.Common.{subst, arith, Some, None, slice_get, eqb-true}
use Rattle.std.specs.Prelude.{nat_lt}
use Rattle.std.proofs.lemmas.Bool.Decides.{nat_tests}
use Rattle.sh_slots.specs.declared.hand.SlotRef.{SlotRef}
use Rattle.sh_slots.specs.declared.hand.KeyRef.{KeyRef}
use Rattle.sh_slots.specs.declared.hand.Hand.TheVariants.{Idle, Leaving, Finishing, Tying}
use Rattle.sh_core.specs.Words.{Words, write, put}
use Rattle.sh_shape.specs.declared.places.Place.TheVariants.{State}
use Rattle.sh_word.specs.Fields.{Fields, fields_of, word_of}
use Rattle.sh_step.specs.Plans.{Plan, Lawful}
use Rattle.sh_slots.specs.Slots.{same_slot, slot_ref_of, live_at, marked_word}
use Rattle.sh_step.specs.Collections.{total, if1}
use Rattle.sh_step.specs.declared.body.Body.{Body}
use Rattle.sh_core.specs.Lists.{PutLists, times, mine_at, pushed, taken}
use Rattle.sh_core.specs.Stacks.{slot_ref}
use Rattle.sh_history.specs.declared.entry.Entry.TheVariants.{Gone, Crowded}
use Rattle.sh_step.specs.Rows.{hand, own, finish, enter_get, enter_remove}
use Rattle.sh_core.specs.Worlds.{World, apply, value_at}
use Rattle.sh_core.specs.Tallies.{AddsUp, Tally, tally, due, held, visits, lost, finishing, room, queued}
use Rattle.sh_core.specs.Stories.{values, removals, removed_in, Story, KeysAgree}
use Rattle.sh_core.specs.Sums.{Sums, FillAgrees}
use Rattle.sh_core.proofs.Sums.Totals.{total_set}
use Rattle.sh_word.proofs.Words.{fields_of-word_of, word_of-fields_of}
use Rattle.sh_core.proofs.Slots.Slots.{tally_same, tally_set, tally_ext, slots_state, same_slot-refl, lost_le}
use Rattle.sh_core.proofs.Slots.SlotSteps.{finish_mine, enter_slots, reused_fields, fields_of-entered}
use Rattle.sh_core.proofs.Slots.Logs.{keys_state, keys_quiet, story_retire, gone_permitted}
use Rattle.sh_core.proofs.Slots.SumsStep.{sums_at}
use Rattle.sh_core.proofs.Slots.SlotSums.{keys_still, room_to_enter, none_gone}
use Rattle.sh_core.proofs.Slots.FinishSums.{found_marked, finish_keys}
use Rattle.sh_core.proofs.Slots.CrowdedAndClass.{crowded_permitted}
use Rattle.sh_core.proofs.Sums.Tests.{eqb-comm}
use Rattle.sh_core.proofs.Sums.ListCounts.{times_cons, times_none}
use Rattle.sh_core.proofs.Sums.Writes.{put_same, put_other}
use Rattle.sh_slots.specs.declared.hand.Sight.{Sight}

-- words other than those that slots and keys read
abbrev pub beside : Words → (ℕ → ℕ) → (ℕ → ℕ) → (ℕ → ℕ → ℕ) → (ℕ → ℕ) → (ℕ → ℕ) → Words
beside w h pl li ow be = record w { head_at = h; page_link_at = pl; link_at = li; owner_at = ow; bell_at = be }

abbrev pub with : World → Words → ℕ → Body → World
with w W a p' = record { words = W; parts = set w.parts a p'; log = w.log }

-- a step that changes nothing of slots and keys
pub sums_quiet : (plan : Plan) (w : World) (l l' : PutLists) (a : ℕ) (p p' : Body) (h pl : ℕ → ℕ) (li : ℕ → ℕ → ℕ)
    (ow be : ℕ → ℕ) → Sums plan w l → slice_get w.parts a ≡ Some p
    → ((y : SlotRef) (st : Fields) → due plan y st p' ≡ due plan y st p) → ((y : SlotRef) → queued l' y ≡ queued l y)
    → p'.holds ≡ p.holds → FillAgrees w.words p' p'.hand
    → Sums plan (with w (beside w.words h pl li ow be) a p') l'
unfolding value_at
sums_quiet plan w l l' a p p' h pl li ow be g at same lists holds fill =
    sums_at plan w l l' a p p' (beside w.words h pl li ow be) None g at
    (λ y. rw (
      lists y,
      tally_same plan y (fields_of (w.words.state_at y.page y.slot)) w.parts a p p' at
          (same y (fields_of (w.words.state_at y.page y.slot))),
    ) (g.slots y))
    g.keys tt (λ k. ap (times k) holds) (rw holds (g.parts a p at).0, fill) (λ b q _ _ x. x)

pub queued_push : (l : PutLists) (x y : SlotRef) → queued (pushed l x) y ≡ queued l y + if1 (same_slot y x)
unfolding total
queued_push l x y = go (y.page == x.page) refl where
  go : (b : Bool) → (y.page == x.page) ≡ b → queued (pushed l x) y ≡ queued l y + if1 (b && (y.slot == x.slot))
  go true e =
      let i = eqb-true y.page x.page e in
      let j = put_same l.stack x.page (x.slot ∷ l.stack x.page) in
      let k : if1 (x.slot == y.slot) ≡ if1 (y.slot == x.slot) = ap if1 (eqb-comm x.slot y.slot) in
      rw (i, j) (omega arith)
  go false e = rw (put_other l.stack x.page y.page (x.slot ∷ l.stack x.page) e) (omega arith)

abbrev pub tied : Body → SlotRef → ℕ → Bool → Body
tied p x n r = hand p (Tying x n r)

-- Put: a slot in the hand, or in `mine`, is then queued; u is what the pass no longer has of a slot
pub sums_put : (plan : Plan) (w : World) (l : PutLists) (a : ℕ) (p p' : Body) (x : SlotRef) (n : ℕ) (r : Bool)
    (h : ℕ → ℕ)
    → Sums plan w l → slice_get w.parts a ≡ Some p → p'.holds ≡ p.holds
    → ((y : SlotRef) (st : Fields) → (due plan y st p).mine + (due plan y st p).hand
    ≡ (due plan y st (tied p' x n r)).mine + if1 (same_slot y x))
    → ((y : SlotRef) (st : Fields) → (held plan y p ≡ held plan y p') × (visits plan y p ≡ 0)
    × (lost plan y st p ≡ lost plan y st (tied p' x n r)) × (finishing y st.generation p ≡ 0))
    → Sums plan (with w (beside w.words h w.words.page_link_at w.words.link_at w.words.owner_at w.words.bell_at) a
    (tied p' x n r)) (pushed l x)
unfolding value_at
sums_put plan w l a p p' x n r h g at holds moves rest = sums_at plan w l (pushed l x) a p (tied p' x n r)
    (beside w.words h w.words.page_link_at w.words.link_at w.words.owner_at w.words.bell_at) None g at
    (λ y.
    let st : Fields = fields_of (w.words.state_at y.page y.slot) in
    let f = g.slots y in
    let m = tally_set plan y st w.parts a p (tied p' x n r) at in
    let d = moves y st in
    let e = rest y st in
    let e0 = e.0 in
    let e1 = e.1 in
    let e2 = e.2 in
    let e3 = e.3 in
    let q = queued_push l x y in
    record {
      kinds = omega arith;
      counts = omega arith;
      none_lost = omega arith;
      owed = λ b c d. let o = f.owed b c d
          in omega arith;
    })
    g.keys tt (λ k. ap (times k) holds) (rw holds (g.parts a p at).0, tt) (λ b q _ _ x. x)

-- Take and Arm: the stack becomes the empty chain
pub queued_taken : (l : PutLists) (q : ℕ) → l.chain q ≡ [] → (y : SlotRef) → queued (taken l q) y ≡ queued l y
queued_taken l q none y = go (y.page == q) refl where
  go : (b : Bool) → (y.page == q) ≡ b → queued (taken l q) y ≡ queued l y
  go true e =
      let i = eqb-true y.page q e in
      let z = times_none y.slot in rw (i, put_same l.stack q [], put_same l.chain q (l.stack q), none) (omega arith)
  go false e = rw (put_other l.stack q y.page [] e, put_other l.chain q y.page (l.stack q) e) refl

-- Follow: a slot that was queued is then in `mine`
pub sums_follow : (plan : Plan) (w : World) (l : PutLists) (a : ℕ) (p p' : Body) (q s : ℕ) (li : ℕ → ℕ → ℕ)
    → Sums plan w l → slice_get w.parts a ≡ Some p → l.chain q ≡ s ∷ drop 1 (l.chain q)
    → ((y : SlotRef) (st : Fields) → due plan y st p' ≡ record (due plan y st p)
    { mine = if1 (same_slot y (slot_ref q s)) + mine_at y p }) → p'.holds ≡ p.holds → FillAgrees w.words p' p'.hand
    → Sums plan (with w (beside w.words w.words.head_at w.words.page_link_at li w.words.owner_at w.words.bell_at) a p')
    (record l { chain = put l.chain q (drop 1 (l.chain q)) })
unfolding value_at
sums_follow plan w l a p p' q s li g at is moves holds fill = sums_at plan w l L a p p'
    (beside w.words w.words.head_at w.words.page_link_at li w.words.owner_at w.words.bell_at) None g at
    (λ y.
    let st : Fields = fields_of (w.words.state_at y.page y.slot) in
    let f = g.slots y in
    let m = tally_set plan y st w.parts a p p' at in
    let d = moves y st in
    let d0 = ap (λ (t : Tally). t.mine) d in
    let d1 = ap (λ (t : Tally). t.hand) d in
    let d2 = ap (λ (t : Tally). t.held) d in
    let d3 = ap (λ (t : Tally). t.visits) d in
    let d4 = ap (λ (t : Tally). t.lost) d in
    let d5 = ap (λ (t : Tally). t.finishing) d in
    let k = one_less y in
    record {
      kinds = omega arith;
      counts = omega arith;
      none_lost = omega arith;
      owed = λ b c d. let o = f.owed b c d
          in omega arith;
    })
    g.keys tt (λ k. ap (times k) holds) (rw holds (g.parts a p at).0, fill) (λ b q _ _ x. x) where
      L : PutLists
      L = record l { chain = put l.chain q (drop 1 (l.chain q)) }

      one_less : (y : SlotRef) → queued L y + if1 (same_slot y (slot_ref q s)) ≡ queued l y
      one_less y = go (y.page == q) refl where
        go : (b : Bool) → (y.page == q) ≡ b → times y.slot (l.stack y.page) + times y.slot
            (put l.chain q (drop 1 (l.chain q)) y.page) + if1 (b && (y.slot == s)) ≡ queued l y
        go true e =
            let i = eqb-true y.page q e in
            let c : times y.slot (l.chain q) ≡ if1 (s == y.slot) + times y.slot (drop 1 (l.chain q)) = ap (times y.slot)
            is ∙ times_cons y.slot s (drop 1 (l.chain q)) in
            let k : if1 (s == y.slot) ≡ if1 (y.slot == s) = ap if1 (eqb-comm s y.slot) in
            rw (i, put_same l.chain q (drop 1 (l.chain q))) (omega arith)
        go false e = rw (put_other l.chain q y.page (drop 1 (l.chain q)) e) (omega arith)

-- Finish that fails
pub sums_finish_fail : (plan : Plan) (w : World) (l : PutLists) (a : ℕ) (p : Body) (x : SlotRef) (g : ℕ) (sight : Sight)
    → Sums plan w l → slice_get w.parts a ≡ Some (hand p (Finishing x g sight)) → (w.words.state_at x.page x.slot == marked_word g) ≡ false
    → Sums plan (apply w a (finish plan (hand p (Finishing x g sight)) x g)) l
unfolding apply
sums_finish_fail plan w l a p x g sight sums at fails =
    rw fails (sums_at plan w l l a (hand p (Finishing x g sight)) (hand p Idle) (write w.words (State x.page x.slot) n) None
    sums at
    (slots_state plan w.words w.parts l a (hand p (Finishing x g sight)) (hand p Idle) x n sums.slots at (λ y st h. rw h refl)
    here)
    (keys_still plan w.words w.log x n sums.keys refl refl refl) tt (λ j. refl)
    ((sums.parts a (hand p (Finishing x g sight)) at).0, tt) (λ b q _ _ h. h)) where
      n : ℕ
      n = w.words.state_at x.page x.slot

      st : Fields
      st = fields_of n

      back : st.generation ≡ g → st.present ≡ true → st.marked ≡ true → st.count ≡ 0 → ⊥
      back e b c d =
          let s : st ≡ record { generation = g; marked = true; present = true; count = 0 } = λ i. record
          { generation = e i; marked = c i; present = b i; count = d i } in
          let t : n ≡ marked_word g = sym (word_of-fields_of n) ∙ ap word_of s in
          let u : (n == marked_word g) ≡ true = grind (arith, nat_tests) in
          let z : true ≡ false = sym u ∙ fails in cc

      here : AddsUp (room w.words x) (queued l x) st (tally plan x st (set w.parts a (hand p Idle)))
      here =
          let f = sums.slots x in
          let m = tally_set plan x st w.parts a (hand p (Finishing x g sight)) (hand p Idle) at in
          record {
            kinds = omega arith;
            counts = omega arith;
            none_lost = omega arith;
            owed = λ b c d. go b c d
                (same_slot x x && (g == st.generation)) refl (f.owed b c d);
          } where
            go : st.present ≡ true → st.marked ≡ true → st.count ≡ 0 → (b : Bool)
                → (same_slot x x && (g == st.generation)) ≡ b → 0 < total (finishing x st.generation) w.parts
                → 0 < total (finishing x st.generation) (set w.parts a (hand p Idle))
            go b c d false e o = let m = total_set (finishing x st.generation) w.parts a (hand p (Finishing x g sight))
                (hand p Idle) at in let z : if1 (same_slot x x && (g == st.generation)) ≡ 0 = rw e refl in omega arith
            go b c d true e o =
                let k : (g == st.generation) ≡ true = (let t : (true && (g == st.generation))
                ≡ true = rw (same_slot-refl x) at e in t) in
                absurd (back (sym (eqb-true g st.generation k)) b c d)

abbrev pub retired_fields : ℕ → Fields
retired_fields g = record { generation = g; marked = true; present = false; count = 0 }

module _ (plan : Plan) (w : World) (l : PutLists) (a : ℕ) (p : Body) (x : SlotRef) (g : ℕ) (sight : Sight)
    (sums : Sums plan w l)
    (at : slice_get w.parts a ≡ Some (hand p (Finishing x g sight)))
    (is : (w.words.state_at x.page x.slot == marked_word g) ≡ true) where
  abbrev st0 : Fields
  st0 = record { generation = g; marked = true; present = true; count = 0 }

  pub found_is : fields_of (w.words.state_at x.page x.slot) ≡ st0
  found_is = found_marked (w.words.state_at x.page x.slot) g is

  fine0 : AddsUp (room w.words x) (queued l x) st0 (tally plan x st0 w.parts)
  fine0 = let P : Fields → Type 0 = λ s. AddsUp (room w.words x) (queued l x) s (tally plan x s w.parts)
      in subst P found_is (sums.slots x)

  -- Finish of an own slot
  pub sums_finish_mine : (g == plan.keys.gen_max) ≡ false → own plan p x.page ≡ true
      → Sums plan (apply w a (finish plan (hand p (Finishing x g sight)) x g)) l
  unfolding apply total
  sums_finish_mine more mine = rw (is, more, mine) (sums_at plan w l l a (hand p (Finishing x g sight))
      (hand (record p { mine = x ∷ p.mine }) Idle) (write w.words (State x.page x.slot) (word_of (reused_fields g)))
      None sums at
      (slots_state plan w.words w.parts l a (hand p (Finishing x g sight)) (hand (record p { mine = x ∷ p.mine }) Idle) x
      (word_of (reused_fields g)) sums.slots at
      (λ y st h. let z : if1 (same_slot y x) ≡ 0 = rw h refl in let f : if1 (same_slot y x && (g == st.generation))
      ≡ 0 = rw h refl in tally_ext _ _ (omega arith) refl refl refl refl (sym f))
      (rw (fields_of-word_of (reused_fields g) (omega arith))
      (finish_mine _ _ st0 plan w.parts a p x g sight refl refl at fine0)))
      (finish_keys plan w.words w.log x g sums.keys found_is) tt (λ j. refl)
      ((sums.parts a (hand p (Finishing x g sight)) at).0, tt) (λ b q _ _ h. h))

  -- Finish of the last generation
  pub sums_finish_last : (g == plan.keys.gen_max) ≡ true → Sums plan
      (apply w a (finish plan (hand p (Finishing x g sight)) x g)) l
  unfolding apply
  sums_finish_last last = rw (is, last) (sums_at plan w l l a (hand p (Finishing x g sight)) (hand p Idle)
      (write w.words (State x.page x.slot) (word_of (retired_fields g))) None sums at
      (slots_state plan w.words w.parts l a (hand p (Finishing x g sight)) (hand p Idle) x (word_of (retired_fields g))
      sums.slots at (λ y st h. rw h refl)
      (rw (fields_of-word_of (retired_fields g) (omega arith)) here)) keys tt (λ j. refl)
      ((sums.parts a (hand p (Finishing x g sight)) at).0, tt) (λ b q _ _ h. h)) where
        here : AddsUp (room w.words x) (queued l x) (retired_fields g)
            (tally plan x (retired_fields g) (set w.parts a (hand p Idle)))
        here =
            let f = fine0 in
            let m = tally_set plan x (retired_fields g) w.parts a (hand p (Finishing x g sight)) (hand p Idle) at in
            let few = lost_le plan x (retired_fields g) (set w.parts a (hand p Idle)) in
            record { kinds = omega arith; counts = omega arith; none_lost = omega arith; owed = λ c d n. cc }

        keys : KeysAgree plan (write w.words (State x.page x.slot) (word_of (retired_fields g))) w.log
        keys = keys_state plan w.words w.log w.log x (word_of (retired_fields g)) sums.keys (λ k z name h. (refl, refl))
            (λ k z name h.
            let P : SlotRef → Type 0 = λ y. Story (fields_of (w.words.state_at y.page y.slot)) z.generation
            (values k w.log) (removals k w.log) (value_at w.words y.page y.slot) in
            let s = subst P h (sums.keys k z name) in
            let Q : Fields → Type 0 = λ t. Story t z.generation (values k w.log) (removals k w.log)
            (value_at w.words x.page x.slot) in
            rw (fields_of-word_of (retired_fields g) (omega arith))
            (story_retire st0 z.generation (values k w.log) (removals k w.log) (value_at w.words x.page x.slot)
            (subst Q found_is s) refl refl))

none_crowded : (a k j : ℕ) → (values j (Crowded a k ∷ []) ≡ []) × (removed_in j (Crowded a k) ≡ 0)
unfolding values
none_crowded a k j = (refl, refl)

-- Enter of a remove that meets no live value of its key
pub sums_remove_gone : (plan : Plan) (w : World) (l : PutLists) (a : ℕ) (p : Body) (k : ℕ) (y : KeyRef) → Lawful plan
    → Sums plan w l → slice_get w.parts a ≡ Some (hand p Idle) → plan.keys.unpack k ≡ Some y
    → live_at y.generation (w.words.state_at y.page y.slot) ≡ false
    → Sums plan (apply w a (enter_remove plan (hand p Idle) k y)) l
unfolding apply
sums_remove_gone plan w l a p k y laws g at name dead =
    let n : ℕ = w.words.state_at y.page y.slot in
    let few = room_to_enter plan w l (slot_ref_of y) laws g in
    let add = fields_of-entered n few in
    rw dead (sums_at plan w l l a (hand p Idle) (hand p (Leaving (slot_ref_of y)))
    (write w.words (State y.page y.slot) (n + 1)) (Some (Gone a k)) g at
    (enter_slots plan w.words w.parts l a p (slot_ref_of y) g.slots at few)
    (keys_quiet plan w.words w.log (Gone a k) (slot_ref_of y) (n + 1) g.keys (none_gone a k)
    (ap (λ (t : Fields). t.generation) add) (ap (λ (t : Fields). t.marked) add)
    (ap (λ (t : Fields). t.present) add))
    (gone_permitted plan w.log a k y n (value_at w.words y.page y.slot) (g.keys k y name) dead) (refl, λ j. refl)
    ((g.parts a (hand p Idle) at).0, tt) (λ b q _ _ h. h))

pub sums_crowded : (plan : Plan) (w : World) (l : PutLists) (a : ℕ) (p : Body) (k : ℕ) (y : KeyRef) → Lawful plan
    → Sums plan w l → slice_get w.parts a ≡ Some (hand p Idle) → plan.keys.unpack k ≡ Some y
    → live_at y.generation (w.words.state_at y.page y.slot) ≡ true
    → nat_lt (fields_of (w.words.state_at y.page y.slot)).count plan.keys.guard_max ≡ false
    → Sums plan (apply w a (enter_get plan (hand p Idle) k y)) l
unfolding apply
sums_crowded plan w l a p k y laws g at name live over =
    let n : ℕ = w.words.state_at y.page y.slot in
    let few = room_to_enter plan w l (slot_ref_of y) laws g in
    let add = fields_of-entered n few in
    rw (live, over) (sums_at plan w l l a (hand p Idle) (hand p (Leaving (slot_ref_of y)))
    (write w.words (State y.page y.slot) (n + 1)) (Some (Crowded a k)) g at
    (enter_slots plan w.words w.parts l a p (slot_ref_of y) g.slots at few)
    (keys_quiet plan w.words w.log (Crowded a k) (slot_ref_of y) (n + 1) g.keys (none_crowded a k)
    (ap (λ (t : Fields). t.generation) add) (ap (λ (t : Fields). t.marked) add)
    (ap (λ (t : Fields). t.present) add))
    (crowded_permitted plan w l a p k y laws g at name live over) (refl, λ j. refl) ((g.parts a (hand p Idle) at).0, tt)
    (λ b q _ _ h. h))
