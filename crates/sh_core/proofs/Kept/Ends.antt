-- What a pass knows of a key that it is to end: it stays true, and once all is read it has the key's value.
use Rattle.std.proofs.Common.{◌≡◌, ℕ, zero, suc, ◌-◌, ◌<◌, ◌≤◌, ◌==◌, ◌&&◌, ◌⊎◌, inl, inr, ⊎_elim, Bool}
use Rattle.std.proofs.Common.{true, false, cond, List, [], ◌∷◌, refl, sym, ap, ◌∙◌, subst, arith, Option, Some, None}
use Rattle.std.proofs.Common.{slice_get, eqb-true, eq-or-lt_of_le}
use Rattle.std.specs.Prelude.{nat_lt, not}
use Rattle.std.proofs.lemmas.Bool.{cases_lt}
use Rattle.std.proofs.lemmas.Bool.Decides.{nat_tests}
use Rattle.sh_history.specs.declared.entry.Entry.{Entry}
use Rattle.sh_history.specs.History.{value_of, is_removed}
use Rattle.sh_slots.specs.declared.hand.Hand.{Hand}
use Rattle.sh_slots.specs.declared.hand.Hand.TheVariants.{Idle, Removing, Leaving, Finishing, ToPut, Ringing, Looking}
use Rattle.sh_slots.specs.declared.hand.KeyRef.{KeyRef}
use Rattle.sh_slots.specs.declared.hand.Sight.{Sight}
use Rattle.sh_slots.specs.declared.hand.Sight.TheVariants.{Bare}
use Rattle.sh_slots.specs.declared.hand.SlotRef.{SlotRef}
use Rattle.sh_slots.specs.Slots.{slot_ref_of, name_at, live_at, has_room, is_reusable_after, after_drop, sight_with}
use Rattle.sh_slots.specs.Slots.{value_seen}
use Rattle.sh_step.specs.declared.body.Body.{Body}
use Rattle.sh_step.specs.declared.moves.Move.{Move}
use Rattle.sh_step.specs.declared.moves.Move.TheVariants.{EnterGet, EnterRemove, Mark, Drop, DropHold, ReadEnding, Finish}
use Rattle.sh_step.specs.declared.moves.Move.TheVariants.{FillSlot, Fill, Publish, Follow, Put, PutSlot, Tie, Adopt, Ring}
use Rattle.sh_step.specs.declared.moves.Move.TheVariants.{RingTie, FollowBell, Look, LookOn, LookAgain, ReadClass}
use Rattle.sh_step.specs.declared.moves.Move.TheVariants.{ReadLength, ReadWord}
use Rattle.sh_step.specs.Collections.{if1}
use Rattle.sh_step.specs.Conditions.{May, SlotWithin}
use Rattle.sh_word.specs.Fields.{Fields, fields_of}
use Rattle.sh_step.specs.Moves.{row_of}
use Rattle.sh_step.specs.Plans.{Plan, Lawful}
use Rattle.sh_step.specs.Rows.{Row, hand, own, is_read, look_place}
use Rattle.sh_step.proofs.Truths.{lt_true, and3}
use Rattle.sh_word.proofs.Words.{fields_of-sub}
use Rattle.sh_core.specs.InHeap.{InHeap}
use Rattle.sh_core.specs.KeyEnds.{is_after, has_ended, EndIsTrue, HandEnds}
use Rattle.sh_core.specs.Lists.{PutLists, times}
use Rattle.sh_core.specs.Looks.{Sees}
use Rattle.sh_core.specs.Placed.{Agreement}
use Rattle.sh_core.specs.Stories.{values, removals, Story}
use Rattle.sh_core.specs.Tallies.{AddsUp, tally, held, at_slot, room, queued}
use Rattle.sh_core.specs.Words.{read, put2}
use Rattle.sh_core.specs.Worlds.{World, apply, open_world, value_at, joined, entry_of, value_at_place}
use Rattle.sh_core.proofs.Clauses.OpenSums.{part_new}
use Rattle.sh_core.proofs.Kept.Looks.{class_stays, sees_more, sees_all, stays_issued}
use Rattle.sh_core.proofs.Kept.OneEnd.{move_once}
use Rattle.sh_core.proofs.Kept.StaysInHeap.{hand_within}
use Rattle.sh_core.proofs.MapEntries.{removed_snoc}
use Rattle.sh_core.proofs.Moves.ByMove.{MovesCount, keys_stay, lists_after}
use Rattle.sh_core.proofs.Slots.Logs.{got_permitted}
use Rattle.sh_core.proofs.Slots.Permits.{value_first, value_one, removed_by}
use Rattle.sh_core.proofs.Slots.Slots.{same_slot-refl}
use Rattle.sh_core.proofs.Sums.ListCounts.{times_cons, times_less}
use Rattle.sh_core.proofs.Sums.Tests.{cond_either}
use Rattle.sh_core.proofs.Sums.Totals.{get_set, total_set, total_at, zero_all}
use Rattle.sh_core.proofs.Sums.Writes.{put2_same}

-- a key that was removed, and has not ended, is marked in its slot, with its value
abbrev IsKept : Fields → (now v : List ℕ) → Type 0
IsKept st now v = (st.present ≡ true) × (now ≡ v)

kept_of : (st : Fields) (g : ℕ) (vs : List (List ℕ)) (gone : ℕ) (now v : List ℕ) → Story st g vs gone now
    → slice_get vs 0 ≡ Some v → 0 < gone → is_after g st ≡ false → IsKept st now v
kept_of st g vs gone now v s is some not = go (cases_lt g st.generation) where
  of_now : (b c : Bool) → st.present ≡ b → st.marked ≡ c → g ≡ st.generation → IsKept st now v
  of_now b false d e same =
      let k = s.mark same in
      let none : if1 st.marked ≡ 0 = rw e refl in absurd (omega arith)
  of_now false true d e same =
      let f : nat_lt g st.generation ≡ false = grind (arith, nat_tests, same) in
      let t : (st.generation == g) ≡ true = grind (arith, nat_tests, same) in
      absurd (let z : true ≡ false = rw (f, d, e, t) at not in cc)
  of_now true true d e same =
      let vs_are : vs ≡ now ∷ [] = s.value same (rw d refl) in
      let z : Some now ≡ Some v = ap (λ (us : List (List ℕ)). slice_get us 0) (sym vs_are) ∙ is in
      let y : now ≡ v = cc in (d, y)

  later : st.generation < g → IsKept st now v
  later c = let k = (s.later c).1 in absurd (omega arith)

  go : (g < st.generation) ⊎ (st.generation ≤ g) → IsKept st now v
  go (inl c) = absurd (let z : true ≡ false = rw (lt_true g st.generation c) at not in cc)
  go (inr c) = ⊎_elim (λ d. of_now st.present st.marked refl refl (sym d)) later (eq-or-lt_of_le c)

removals_of : (k : ℕ) (es : List Entry) → is_removed es k ≡ true → 0 < removals k es
removals_of k es is = go (removals k es) refl where
  go : (n : ℕ) → removals k es ≡ n → 0 < n
  go zero e = absurd (let f = (removed_by k es).0 e in let z : true ≡ false = sym is ∙ f in cc)
  go (suc n) e = omega arith

-- if the last count on a marked slot is given back, no pass has a hold on its key, which was removed
ending_begins : (plan : Plan) (w : World) (l : PutLists) → Lawful plan → Agreement plan w l → (x : SlotRef)
    → SlotWithin plan x → (st : Fields) → fields_of (w.words.state_at x.page x.slot) ≡ st → st.present ≡ true
    → st.marked ≡ true → st.count ≡ 0 → HandEnds plan w (Finishing x st.generation Bare)
ending_begins plan w l laws all x inside st is there marks none = record {
  named = record { unpacks = names; page = inside.0; slot = inside.1 };
  removed = (removed_by k w.log).1 (let one : if1 st.marked ≡ 1 = rw marks refl in let s = story.mark refl
      in omega arith);
  unheld = let f = slots.counts in zero_all (λ (p : Body). times k p.holds) (held plan x) w.parts
      (λ j p _ z. no_hold p z) (omega arith);
  value = value_at w.words x.page x.slot;
  issued = value_one k w.log (value_at w.words x.page x.slot) (story.value refl (rw there refl));
  sees = λ _. tt;
} where
  n : KeyRef
  n = name_at x st.generation

  k : ℕ
  k = plan.keys.pack n

  names : plan.keys.unpack k ≡ Some n
  names =
      let P : Fields → Type 0 = λ u. (0 < u.generation) × (u.generation ≤ plan.keys.gen_max) in
      let g = subst P is (all.bounds.generations x.page x.slot) in laws.names n g.0 g.1 inside.0 inside.1

  story : Story st st.generation (values k w.log) (removals k w.log) (value_at w.words x.page x.slot)
  story = subst (λ (u : Fields). Story u st.generation (values k w.log) (removals k w.log)
      (value_at w.words x.page x.slot)) is (all.sums.keys k n names)

  slots : AddsUp (room w.words x) (queued l x) st (tally plan x st w.parts)
  slots = subst (λ (u : Fields). AddsUp (room w.words x) (queued l x) u (tally plan x u w.parts)) is (all.sums.slots x)

  no_hold : (p : Body) → held plan x p ≡ 0 → times k p.holds ≡ 0
  no_hold p z = zero_all (λ j. if1 (j == k)) (λ j. if1 (at_slot x (plan.keys.unpack j))) p.holds
      (λ i j _ e. other j (j == k) refl e) z where
        other : (j : ℕ) (b : Bool) → (j == k) ≡ b → if1 (at_slot x (plan.keys.unpack j)) ≡ 0 → if1 (j == k) ≡ 0
        other j false d e = rw d refl
        other j true d e = absurd (let y : if1 (at_slot x (plan.keys.unpack j)) ≡ 1 = rw (
          eqb-true j k d,
          names,
          same_slot-refl x,
        ) refl in omega arith)

module _ (plan : Plan) (laws : Lawful plan) (w : World) (l : PutLists) (all : Agreement plan w l) (a : ℕ) (p : Body)
    (at : slice_get w.parts a ≡ Some p) (counts : MovesCount plan w p) (within : InHeap plan p) where
  unended : (k : ℕ) (n : KeyRef) (v : List ℕ) → plan.keys.unpack k ≡ Some n → value_of w.log k ≡ Some v
      → is_removed w.log k ≡ true → has_ended w n ≡ false
      → IsKept (fields_of (w.words.state_at n.page n.slot)) (value_at w.words n.page n.slot) v
  unended k n v name is gone not =
      kept_of (fields_of (w.words.state_at n.page n.slot)) n.generation (values k w.log) (removals k w.log)
      (value_at w.words n.page n.slot) v (all.sums.keys k n name) (sym (value_first k w.log) ∙ is)
      (removals_of k w.log gone) not

  -- one more word, and all words
  reads_end : (k : ℕ) (n : KeyRef) (s : Sight) → EndIsTrue plan w k n s → is_read n s ≡ false
      → EndIsTrue plan w k n (sight_with s (read w.words (look_place n s)))
  reads_end k n s t more = record {
    named = t.named;
    removed = t.removed;
    unheld = t.unheld;
    value = t.value;
    issued = t.issued;
    sees = λ not.
        let r = unended k n t.value t.named.unpacks t.issued t.removed not
        in sees_more plan w l a p all at n t.value s r.1 more (t.sees not);
  }

  pub end_words : (k : ℕ) (n : KeyRef) (s : Sight) → EndIsTrue plan w k n s → is_read n s ≡ true
      → has_ended w n ≡ false → value_of w.log k ≡ Some (value_seen s)
  end_words k n s t ends not =
      let r = unended k n t.value t.named.unpacks t.issued t.removed not in
      let whole = sees_all plan w l a p all at n t.value s (rw r.0 refl) r.1 ends (t.sees not) in
      t.issued ∙ ap (λ (v : List ℕ). Some v) (sym whole)

  abbrev HasNone : ℕ → Body → Type 0
  HasNone k u = times k u.holds ≡ 0

  -- no pass gets a hold on a key that was removed
  no_more_holds : (m : Move) → May plan p m → (k : ℕ) → is_removed w.log k ≡ true → HasNone k p
      → HasNone k ((row_of plan p m).part (read w.words (row_of plan p m).place))
  no_more_holds (EnterGet j y) (idle, named, few) k gone none = go (live_at y.generation n) refl where
    n : ℕ
    n = w.words.state_at y.page y.slot

    other : (b : Bool) → (j == k) ≡ b → live_at y.generation n ≡ true → times k (j ∷ p.holds) ≡ 0
    other false e live = let c = times_cons k j p.holds in let z : if1 (j == k) ≡ 0 = rw e refl in omega arith
    other true e live =
        let same = eqb-true j k e in
        let may = got_permitted plan w.log a j y n (value_at w.words y.page y.slot)
        (all.sums.keys j y named.unpacks) live in
        let some = removals_of j w.log (subst (λ i. is_removed w.log i ≡ true) (sym same) gone) in
        let zero = may.1 in absurd (omega arith)

    go : (b : Bool) → live_at y.generation n ≡ b → HasNone k (cond (b && has_room plan.keys.guard_max n)
        (record p { holds = j ∷ p.holds }) (hand p (Leaving (slot_ref_of y))))
    go false e = none
    go true e = cond_either (HasNone k) (has_room plan.keys.guard_max n) (record p { holds = j ∷ p.holds })
        (hand p (Leaving (slot_ref_of y))) (other (j == k) refl e) none
  no_more_holds (DropHold j y) may k gone none = let less = times_less j k p.holds in omega arith
  no_more_holds (ReadClass j y) may k gone none = none
  no_more_holds (ReadLength j y) may k gone none = none
  no_more_holds (ReadWord j y c i) may k gone none = none
  no_more_holds m may k gone none =
      let s = keys_stay plan p m (read w.words (row_of plan p m).place) (λ z. z) in rw s.0 none

  module _ (m : Move) (may : May plan p m) where
    abbrev next_world : World
    next_world = apply w a (row_of plan p m)

    abbrev its_entry : Option Entry
    its_entry = let r : Row = row_of plan p m in
        entry_of a (value_at_place w.words r.place) (r.reply (read w.words r.place))

    stays_removed : (o : Option Entry) (k : ℕ) → is_removed w.log k ≡ true → is_removed (joined w.log o) k ≡ true
    stays_removed None k h = h
    stays_removed (Some e) k h = removed_snoc w.log e k ∙ rw h refl

    ended_before : (n : KeyRef) → has_ended next_world n ≡ false → has_ended w n ≡ false
    ended_before n not = go (has_ended w n) refl where
      go : (b : Bool) → has_ended w n ≡ b → b ≡ false
      go false e = refl
      go true e = absurd (
          let o = move_once plan w l all a p at counts m may n in
          let x : if1 (has_ended w n) ≡ 1 = rw e refl in
          let y : if1 (has_ended next_world n) ≡ 0 = rw not refl in omega arith
          )

    -- what is known stays true
    still : (k : ℕ) (n : KeyRef) (s : Sight) → EndIsTrue plan w k n s → EndIsTrue plan next_world k n s
    unfolding apply
    still k n s t = record {
      named = t.named;
      removed = stays_removed its_entry k t.removed;
      unheld =
          let f : Body → ℕ = λ u. times k u.holds in
          let u : Body = (row_of plan p m).part (read w.words (row_of plan p m).place) in
          let before = t.unheld in
          let old = total_at f w.parts a p at in
          let none = no_more_holds m may k t.removed (omega arith) in
          let sum = total_set f w.parts a p u at in omega arith;
      value = t.value;
      issued = stays_issued w.log its_entry k t.value t.issued;
      sees = λ not.
          let b = ended_before n not in
          let r = unended k n t.value t.named.unpacks t.issued t.removed b in
          subst (λ c. Sees c t.value s) (sym (class_stays plan w l a p all at m may (slot_ref_of n) r.0)) (t.sees b);
    }

    pub still_hand : (h : Hand) → HandEnds plan w h → HandEnds plan next_world h
    still_hand (Finishing x g s) t = still (plan.keys.pack (name_at x g)) (name_at x g) s t
    still_hand _ t = tt

  -- a drop may leave an end to be done
  dropped : (w' : World) (l' : PutLists) → Agreement plan w' l' → (x : SlotRef) → SlotWithin plan x → (n : ℕ)
      → fields_of (w'.words.state_at x.page x.slot) ≡ record (fields_of n) { count = (fields_of n).count - 1 }
      → HandEnds plan w' (after_drop x n)
  dropped w' l' new x inside n is =
      go ((fields_of n).present && (fields_of n).marked && ((fields_of n).count == 1)) refl where
        go : (b : Bool) → ((fields_of n).present && (fields_of n).marked && ((fields_of n).count == 1)) ≡ b
            → HandEnds plan w' (cond b (Finishing x (fields_of n).generation Bare) Idle)
        go false e = tt
        go true e =
            let t = and3 (fields_of n).present (fields_of n).marked ((fields_of n).count == 1) e in
            let one = eqb-true (fields_of n).count 1 t.2 in
            ending_begins plan w' l' laws new x inside (record (fields_of n) { count = (fields_of n).count - 1 }) is t.0 t.1
            (omega arith)

  abbrev NewAgrees : Move → Type 0
  NewAgrees m = let r : Row = row_of plan p m in Agreement plan (apply w a r)
      (lists_after plan p m (read w.words r.place) l)

  abbrev E : Move → Hand → Type 0
  E m h = HandEnds plan (apply w a (row_of plan p m)) h

  dropped_count : (x : SlotRef) → 1 ≤ (fields_of (w.words.state_at x.page x.slot)).count
      → fields_of (put2 w.words.state_at x.page x.slot (w.words.state_at x.page x.slot - 1) x.page x.slot)
      ≡ record (fields_of (w.words.state_at x.page x.slot))
      { count = (fields_of (w.words.state_at x.page x.slot)).count - 1 }
  dropped_count x some =
      let n : ℕ = w.words.state_at x.page x.slot in
      rw (put2_same w.words.state_at x.page x.slot (n - 1)) (fields_of-sub n (omega arith))

  hand_after : (m : Move) → May plan p m → NewAgrees m → HandEnds plan w p.hand
      → E m ((row_of plan p m).part (read w.words (row_of plan p m).place)).hand
  unfolding apply
  hand_after (EnterGet k x) may new old = cond_either (λ (u : Body). E (EnterGet k x) u.hand)
      (live_at x.generation (w.words.state_at x.page x.slot) && has_room plan.keys.guard_max
      (w.words.state_at x.page x.slot)) _ _ (still_hand (EnterGet k x) may p.hand old) tt
  hand_after (EnterRemove k x) may new old = cond_either (E (EnterRemove k x))
      (live_at x.generation (w.words.state_at x.page x.slot)) (Removing k) (Leaving (slot_ref_of x)) tt tt
  hand_after (Mark k x) may new old = tt
  hand_after (Drop x) is new old =
      dropped (apply w a (row_of plan p (Drop x))) l new x (hand_within plan p (Leaving x) within is)
      (w.words.state_at x.page x.slot) (dropped_count x (counts (Drop x) is))
  hand_after (DropHold k x) may new old =
      dropped (apply w a (row_of plan p (DropHold k x))) l new (slot_ref_of x) (may.1.page, may.1.slot)
      (w.words.state_at x.page x.slot) (dropped_count (slot_ref_of x) (counts (DropHold k x) may))
  hand_after (ReadEnding x g s) (is, more) new old =
      let n : KeyRef = name_at x g in
      still (ReadEnding x g s) (is, more) (plan.keys.pack n) n (sight_with s (read w.words (look_place n s)))
      (reads_end (plan.keys.pack n) n s (subst (HandEnds plan w) is old) more)
  hand_after (Finish x g) may new old =
      cond_either (λ (u : Body). E (Finish x g) u.hand)
      (is_reusable_after g plan.keys.gen_max (w.words.state_at x.page x.slot))
      (cond (own plan p x.page) (hand (record p { mine = x ∷ p.mine }) Idle) (hand p (ToPut x))) (hand p Idle)
      (cond_either (λ (u : Body). E (Finish x g) u.hand) (own plan p x.page)
      (hand (record p { mine = x ∷ p.mine }) Idle) (hand p (ToPut x)) tt tt) tt
  hand_after (FillSlot x v) may new old = tt
  hand_after (Fill x v i c) may new old = tt
  hand_after (Publish x v) may new old = tt
  hand_after (Follow q s) may new old = cond_either (λ (u : Body). E (Follow q s) u.hand) (w.words.link_at q s == 0) p _
      (still_hand (Follow q s) may p.hand old) (still_hand (Follow q s) may p.hand old)
  hand_after (Put x) may new old = tt
  hand_after (PutSlot x) may new old = tt
  hand_after (Tie x n r) may new old = cond_either (E (Tie x n r)) r (Ringing x.page) Idle tt tt
  hand_after (Adopt n) may new old = cond_either (λ (u : Body). E (Adopt n) u.hand) (w.words.owner_at n == 0) _ p
      (still_hand (Adopt n) may p.hand old) (still_hand (Adopt n) may p.hand old)
  hand_after (Ring q) may new old = tt
  hand_after (RingTie q n) may new old = tt
  hand_after (FollowBell q) may new old = cond_either (λ (u : Body). E (FollowBell q) u.hand)
      (w.words.page_link_at q == 0) p _ (still_hand (FollowBell q) may p.hand old)
      (still_hand (FollowBell q) may p.hand old)
  hand_after (Look k x) may new old = cond_either (E (Look k x))
      (live_at x.generation (w.words.state_at x.page x.slot)) (Looking k x Bare) Idle tt tt
  hand_after (LookOn k x s) may new old = tt
  hand_after (LookAgain k x s) may new old = tt
  hand_after m may new old = still_hand m may p.hand old

-- ---- step by step

abbrev pub EndsBegun : Plan → World → Type 0
EndsBegun plan w = (a : ℕ) (p : Body) → slice_get w.parts a ≡ Some p → HandEnds plan w p.hand

pub ends_move : (plan : Plan) (w : World) (l : PutLists) (a : ℕ) (p : Body) (m : Move) → Lawful plan
    → Agreement plan w l → MovesCount plan w p → InHeap plan p → EndsBegun plan w → slice_get w.parts a ≡ Some p
    → May plan p m → (let r : Row = row_of plan p m in Agreement plan (apply w a r)
    (lists_after plan p m (read w.words r.place) l)) → EndsBegun plan (apply w a (row_of plan p m))
unfolding apply
ends_move plan w l a p m laws all counts within old at may new b u i =
    let r : Row = row_of plan p m in
    let n : ℕ = read w.words r.place in
    ⊎_elim (λ d. subst (λ (v : Body). HandEnds plan (apply w a r) v.hand) d.1
    (hand_after plan laws w l all a p at counts within m may new (old a p at)))
    (λ d. still_hand plan laws w l all a p at counts within m may u.hand (old b u d.1))
    (get_set w.parts a b (r.part n) u i)

pub ends_open : (plan : Plan) → EndsBegun plan (open_world plan)
ends_open plan a p at =
    let e = part_new plan.passes a p at in subst (λ (u : Body). HandEnds plan (open_world plan) u.hand) e tt
