-- All that holds, over the moves of stacks: Take, Arm, Follow, PutSlot, Put and Tie.
use Rattle.std.proofs.Common.{◌≡◌, ℕ, ◌+◌, ◌*◌, ◌/◌, ◌%◌, ◌≤◌, ◌==◌, Bool, true, false, cond, List, ◌∷◌, set, drop, sym}
use Rattle.std.proofs.Common.{refl, ap, ◌∙◌, subst, arith, Some, slice_get, eqb-true, eq-eqb, None}
use Rattle.sh_slots.specs.declared.hand.SlotRef.{SlotRef}
use Rattle.sh_slots.specs.declared.hand.Hand.TheVariants.{Idle, ToPut, Tying, Ringing}
use Rattle.sh_core.specs.Words.{write, put, put2}
use Rattle.sh_shape.specs.declared.places.Place.TheVariants.{Head, Link}
use Rattle.sh_step.specs.Plans.{Plan, shard_of}
use Rattle.sh_slots.specs.Slots.{same_slot}
use Rattle.sh_step.specs.Collections.{total, if1, has, without, noted, off}
use Rattle.sh_step.specs.declared.body.Body.{Body}
use Rattle.sh_core.specs.Lists.{PutLists, times, mine_at, in_hand, pushed, taken}
use Rattle.sh_core.specs.Stacks.{slot_ref}
use Rattle.sh_core.specs.Bells.{rings}
use Rattle.sh_core.specs.Placed.{ListsAgreeOf, Agreement}
use Rattle.std.proofs.lemmas.List.{set-set}
use Rattle.sh_step.specs.Rows.{hand, own, point, unpoint, take_page, follow, put_at, tie, arm}
use Rattle.sh_core.specs.Worlds.{World, apply}
use Rattle.sh_core.specs.Tallies.{due, queued}
use Rattle.sh_core.specs.Sums.{FillAgrees}
use Rattle.sh_core.proofs.Sums.Totals.{total_at, total_without, get_set_here}
use Rattle.sh_core.proofs.Slots.Slots.{same_slot-true, if1_same_slot}
use Rattle.sh_core.proofs.Slots.SlotSums.{room_few}
use Rattle.sh_core.proofs.Slots.SumsKinds.{with, sums_quiet, sums_put, queued_taken, sums_follow, tied}
use Rattle.sh_core.proofs.Lists.ListsSteps.{lists_frame, alone_armed}
use Rattle.sh_core.proofs.Lists.StackKinds.{apart_pages, put_agrees, tie_agrees, no_chain, taken_agrees, chain_is}
use Rattle.sh_core.proofs.Lists.StackKinds.{follow_agrees}
use Rattle.sh_core.proofs.Sums.Tests.{eqb-comm, if1_self, cond_if1-true, cond_if1-false, if1_bit, cond_either}
use Rattle.sh_core.proofs.Sums.ListCounts.{times_cons, has_some, has_none, times_off_if}
use Rattle.sh_core.proofs.Moves.AllReads.{idled, all_load}
use Rattle.sh_core.proofs.Moves.AllSlots.{mine_less}

module _ (plan : Plan) (w : World) (l : PutLists) (a : ℕ) (p : Body) (old : Agreement plan w l)
    (at : slice_get w.parts a ≡ Some (idled p)) where
  armed_all : (q : ℕ) → own plan p q ≡ true → (times q p.armed ≡ w.words.head_at q % 2 + total (rings q) w.parts + times
      q (l.bells (shard_of plan q)) + times q (l.bell_chain (shard_of plan q))) × (times q p.armed ≤ 1)
  armed_all q mine =
      let d = old.lists.duty q in
      let d0 = d.0 in
      let d1 = d.1 in
      let e = alone_armed plan w.words w.parts l a (idled p) old.lists at q mine in (omega arith, omega arith)

  pub all_take : (q : ℕ) → own plan p q ≡ true → noted q p.cursors ≡ None
      → Agreement plan (apply w a (take_page (idled p) q)) (taken l q)
  unfolding apply
  all_take q mine free = record {
    sums = sums_quiet plan w l (taken l q) a (idled p)
        (record (idled p) { cursors = point 1 q (n / 2) p.cursors; armed = arms }) (put w.words.head_at q 0)
        w.words.page_link_at w.words.link_at w.words.owner_at w.words.bell_at old.sums at (λ y st. refl)
        (queued_taken l q (no_chain plan w.words w.parts l a (idled p) q 0 arms old.lists at mine free (omega arith)
        homes here there one)) refl tt;
    lists = taken_agrees plan w.words w.parts l a (idled p) q 0 arms old.lists at mine free
        (omega arith) homes here there
        one;
    bounds = old.bounds;
  } where
    n : ℕ
    n = w.words.head_at q

    arms : List ℕ
    arms = cond (n % 2 == 1) (without (λ x. x == q) p.armed) p.armed

    m : cond (n % 2 == 1) 1 0 ≡ n % 2
    m = if1_bit (n % 2) (omega arith)

    off_one : (k : ℕ) → times k arms + cond (n % 2 == 1) (if1 (q == k)) 0 ≡ times k p.armed
    off_one k = times_off_if (n % 2 == 1) q k p.armed (λ e. let d = armed_all q mine in let d0 = d.0
        in let i = eqb-true (n % 2) 1 e in omega arith)

    homes : (k : ℕ) → own plan p k ≡ false → times k arms ≡ 0
    homes k e = let z = (old.lists.own_notes a (idled p) at).arms k e in let o = off_one k in omega arith

    here : times q arms + n % 2 ≡ times q p.armed + 0
    here = let o = off_one q in let f = cond_if1-true (n % 2 == 1) (q == q) (eq-eqb q q refl) in let g = m
        in omega arith

    there : (k : ℕ) → (k == q) ≡ false → times k arms ≡ times k p.armed
    there k e = let o = off_one k in let f = cond_if1-false (n % 2 == 1) (q == k) (eqb-comm q k ∙ e) in omega arith

    one : times q arms ≤ 1
    one = let o = off_one q in let d = (armed_all q mine).1 in omega arith

  pub all_arm : (q : ℕ) → own plan p q ≡ true → noted q p.cursors ≡ None → has (λ x. x == q) p.armed ≡ false
      → Agreement plan (apply w a (arm (idled p) q)) (taken l q)
  unfolding apply
  all_arm q mine free off = record {
    sums = sums_quiet plan w l (taken l q) a (idled p)
        (record (idled p) { cursors = point 1 q (n / 2) p.cursors; armed = q ∷ p.armed }) (put w.words.head_at q 1)
        w.words.page_link_at w.words.link_at w.words.owner_at w.words.bell_at old.sums at (λ y st. refl)
        (queued_taken l q (no_chain plan w.words w.parts l a (idled p) q 1 (q ∷ p.armed) old.lists at mine free
        (omega arith) homes here there one)) refl tt;
    lists = taken_agrees plan w.words w.parts l a (idled p) q 1 (q ∷ p.armed) old.lists at mine free (omega arith) homes
        here there one;
    bounds = old.bounds;
  } where
    n : ℕ
    n = w.words.head_at q

    more : (k : ℕ) → times k (q ∷ p.armed) ≡ if1 (q == k) + times k p.armed
    more k = times_cons k q p.armed

    none : times q p.armed ≡ 0
    none = has_none (λ x. x == q) p.armed off

    homes : (k : ℕ) → own plan p k ≡ false → times k (q ∷ p.armed) ≡ 0
    homes k e = let z = (old.lists.own_notes a (idled p) at).arms k e in let o = more k
        in let f = apart_pages plan p.owned q k mine e in let g : if1 (q == k) ≡ 0 = rw f refl in omega arith

    here : times q (q ∷ p.armed) + n % 2 ≡ times q p.armed + 1
    here = let o = more q in let g = if1_self q in let d = (armed_all q mine).0 in let z = none in omega arith

    there : (k : ℕ) → (k == q) ≡ false → times k (q ∷ p.armed) ≡ times k p.armed
    there k e = let o = more k in let f : if1 (q == k) ≡ 0 = rw (eqb-comm q k, e) refl in omega arith

    one : times q (q ∷ p.armed) ≤ 1
    one = let o = more q in let g = if1_self q in let z = none in omega arith

  pub all_follow : (q s : ℕ) → own plan p q ≡ true → noted q p.cursors ≡ Some s
      → Agreement plan (apply w a (follow (idled p) q s)) (cond (w.words.link_at q s == 0) l
      (record l { chain = put l.chain q (drop 1 (l.chain q)) }))
  unfolding apply total
  all_follow q s mine is = go (w.words.link_at q s == 0) refl where
    go : (b : Bool) → (w.words.link_at q s == 0) ≡ b → Agreement plan
        (with w (write w.words (Link q s) 0) a (cond b (idled p) (record (idled p)
        { cursors = point 2 q (w.words.link_at q s) (unpoint q p.cursors); mine = slot_ref q s ∷ p.mine })))
        (cond b l (record l { chain = put l.chain q (drop 1 (l.chain q)) }))
    go true e = all_load plan w l a (idled p) (idled p) (Link q s) 0 old at (eqb-true (w.words.link_at q s) 0 e)
        (λ y st. refl) refl tt
        (lists_frame plan w.words w.parts l a (idled p) (idled p) old.lists at refl
        (old.lists.own_notes a (idled p) at))
    go false e = record {
      sums = sums_follow plan w l a (idled p) (record (idled p) {
        cursors = point 2 q (w.words.link_at q s) (unpoint q p.cursors);
        mine = slot_ref q s ∷ p.mine;
      }) q s (put2 w.words.link_at q s 0) old.sums at
          (chain_is plan w.words w.parts l a (idled p) q s old.lists at mine is) (λ y st. refl) refl tt;
      lists = follow_agrees plan w.words w.parts l a (idled p) q s old.lists at mine is
          (let f = old.sums.slots (slot_ref q s) in let r = room_few w.words (slot_ref q s) in omega arith) e;
      bounds = old.bounds;
    }

  pub all_put_slot : (x : SlotRef) → has (same_slot x) p.mine ≡ true
      → Agreement plan (apply w a (put_at (hand (record p { mine = without (same_slot x) p.mine }) Idle) x))
      (pushed l x)
  unfolding apply
  all_put_slot x is = record {
    sums = sums_put plan w l a (idled p) p1 x (w.words.head_at x.page / 2 + 1) (w.words.head_at x.page % 2 == 1)
        (put w.words.head_at x.page ((x.slot + 1) * 2)) old.sums at refl
        (λ y st. let t = total_without (λ u. if1 (same_slot y u)) (same_slot x) (if1 (same_slot y x))
        (λ u k. let i = same_slot-true u x k in ap (λ (v : SlotRef). if1 (same_slot y v)) (sym i)) p.mine is
        in omega arith) (λ y st. (refl, refl, refl, refl));
    lists = let P : List Body → Type 0 = λ us. ListsAgreeOf plan (write w.words (Head x.page) ((x.slot + 1) * 2)) us
        (pushed l x) in
        subst P (set-set w.parts a (hand p1 Idle) (tied p1 x (w.words.head_at x.page / 2 + 1)
        (w.words.head_at x.page % 2 == 1)))
        (put_agrees plan w.words (set w.parts a (hand p1 Idle)) l a p1 x
        (lists_frame plan w.words w.parts l a (idled p) (hand p1 Idle) old.lists at refl
        (mine_less plan w.words.class_at p x is (old.lists.own_notes a (idled p) at)))
        (get_set_here w.parts a (idled p) (hand p1 Idle) at) none);
    bounds = old.bounds;
  } where
    p1 : Body
    p1 = record p { mine = without (same_slot x) p.mine }

    none : queued l x ≡ 0
    none =
        let f = old.sums.slots x in
        let r = room_few w.words x in
        let t = total_at (mine_at x) w.parts a (idled p) at in
        let m = has_some (same_slot x) p.mine is in omega arith

pub all_put : (plan : Plan) (w : World) (l : PutLists) (a : ℕ) (p : Body) (x : SlotRef) → Agreement plan w l
    → slice_get w.parts a ≡ Some (hand p (ToPut x))
    → Agreement plan (apply w a (put_at (hand p (ToPut x)) x)) (pushed l x)
unfolding apply
all_put plan w l a p x old at = record {
  sums = sums_put plan w l a (hand p (ToPut x)) p x (w.words.head_at x.page / 2 + 1) (w.words.head_at x.page % 2 == 1)
      (put w.words.head_at x.page ((x.slot + 1) * 2)) old.sums at refl (λ y st. refl)
      (λ y st. (refl, refl, refl, refl));
  lists = let P : List Body → Type 0 = λ us. ListsAgreeOf plan (write w.words (Head x.page) ((x.slot + 1) * 2)) us
      (pushed l x)
      in
      subst P (set-set w.parts a (hand p Idle) (tied p x (w.words.head_at x.page / 2 + 1)
      (w.words.head_at x.page % 2 == 1)))
      (put_agrees plan w.words (set w.parts a (hand p Idle)) l a p x
      (lists_frame plan w.words w.parts l a (hand p (ToPut x)) (hand p Idle) old.lists at refl
      (old.lists.own_notes a (hand p (ToPut x)) at))
      (get_set_here w.parts a (hand p (ToPut x)) (hand p Idle) at) none);
  bounds = old.bounds;
} where
  none : queued l x ≡ 0
  none =
      let f = old.sums.slots x in
      let r = room_few w.words x in
      let one = if1_same_slot x in
      let t = total_at (in_hand x) w.parts a (hand p (ToPut x)) at in omega arith

pub all_tie : (plan : Plan) (w : World) (l : PutLists) (a : ℕ) (p : Body) (x : SlotRef) (n : ℕ) (r : Bool)
    → Agreement plan w l
    → slice_get w.parts a ≡ Some (hand p (Tying x n r))
    → Agreement plan (apply w a (tie (hand p (Tying x n r)) x n r)) l
unfolding apply
all_tie plan w l a p x n r old at = record {
  sums = sums_quiet plan w l l a (hand p (Tying x n r)) (hand p (cond r (Ringing x.page) Idle)) w.words.head_at
      w.words.page_link_at (put2 w.words.link_at x.page x.slot n) w.words.owner_at w.words.bell_at old.sums at
      (λ y st. cond_either (λ u. due plan y st (hand p u) ≡ due plan y st (hand p (Tying x n r))) r
      (Ringing x.page) Idle refl refl) (λ y. refl) refl
      (cond_either (FillAgrees w.words (hand p (cond r (Ringing x.page) Idle))) r (Ringing x.page) Idle tt tt);
  lists = tie_agrees plan w.words w.parts l a p x n r old.lists at
      (let f = old.sums.slots x in let m = room_few w.words x in omega arith);
  bounds = old.bounds;
}
