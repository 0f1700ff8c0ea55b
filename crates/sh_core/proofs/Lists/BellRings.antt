-- What is kept of lists, bells, duties and owners, over Ring and RingTie.
use Rattle.std.proofs.Common.{◌≡◌, ℕ, ◌+◌, ◌<◌, ◌≤◌, ◌==◌, ◌&&◌, Bool, true, false, cond, List, ◌∷◌, set, sym, refl, ap}
use Rattle.std.proofs.Common.{◌∙◌, arith, Some, slice_get, eqb-true, eq-eqb}
use Rattle.sh_slots.specs.declared.hand.Hand.TheVariants.{Idle, Ringing, RingTying}
use Rattle.sh_core.specs.Words.{Words, write, put}
use Rattle.sh_shape.specs.declared.places.Place.TheVariants.{PageLink, Bell}
use Rattle.sh_step.specs.Plans.{Plan, shard_of, local, over_heap}
use Rattle.sh_step.specs.Collections.{total, if1}
use Rattle.sh_step.specs.declared.body.Body.{Body}
use Rattle.sh_core.specs.Lists.{PutLists, times}
use Rattle.sh_core.specs.Stacks.{slot_ref, tying, ties_of, cursor_at, ring_tying, ring_ties, bell_cursor_at, bell_link}
use Rattle.sh_core.specs.Stacks.{bell_head}
use Rattle.sh_core.specs.Bells.{rings, armed_at, owns}
use Rattle.sh_core.specs.Placed.{ListsAgreeOf}
use Rattle.sh_step.specs.Rows.{hand}
use Rattle.sh_core.proofs.Sums.PageNumbers.{over_local, over_next}
use Rattle.sh_core.proofs.Sums.Totals.{total_same, total_set, total_at}
use Rattle.sh_core.proofs.Lists.StackSteps.{chains_same, chains_push, chains_tie, tied_owes}
use Rattle.sh_core.proofs.Lists.ListsSteps.{homed_set, no_ring_ties}
use Rattle.sh_core.proofs.Sums.Tests.{if1_self, first_fails}
use Rattle.sh_core.proofs.Sums.ListCounts.{times_cons}
use Rattle.sh_core.proofs.Sums.Writes.{put_same, put_other}

-- Ring puts the page on its shard's bell
module _ (plan : Plan) (w : Words) (ps : List Body) (l : PutLists) (a : ℕ) (p : Body) (q : ℕ)
    (old : ListsAgreeOf plan w ps l)
    (at : slice_get ps a ≡ Some (hand p (Ringing q))) where
  -- the shard whose bell it is
  abbrev ring_bell : ℕ
  ring_bell = shard_of plan q

  abbrev ring_before : Body
  ring_before = hand p (Ringing q)

  abbrev ring_after : Body
  ring_after = hand p (RingTying q (w.bell_at ring_bell + 1))

  abbrev ring_lists : PutLists
  ring_lists = record l { bells = put l.bells ring_bell (q ∷ l.bells ring_bell) }

  not_rung : times q (l.bells ring_bell) + times q (l.bell_chain ring_bell) ≡ 0
  not_rung =
      let d = old.duty q in
      let d0 = d.0 in
      let d1 = d.1 in
      let one = if1_self q in
      let r = total_at (rings q) ps a ring_before at in omega arith

  ring_owed : total (ring_tying plan ring_bell q) (set ps a ring_after) ≡ total (ring_tying plan ring_bell q) ps +
      (bell_head plan w.bell_at ring_bell + 1)
  ring_owed =
      let m = total_set (ring_tying plan ring_bell q) ps a ring_before ring_after at in
      let here : cond ((ring_bell == shard_of plan q) && (q == q))
      (over_heap plan ring_bell 2 (w.bell_at ring_bell + 1)) 0
      ≡ bell_head plan w.bell_at ring_bell + 1 = rw (eq-eqb ring_bell ring_bell refl, eq-eqb q q refl)
      (over_next plan ring_bell (w.bell_at ring_bell))
      in omega arith

  ring_tied : total (ring_ties plan ring_bell q) (set ps a ring_after) ≡ total (ring_ties plan ring_bell q) ps + 1
  ring_tied =
      let m = total_set (ring_ties plan ring_bell q) ps a ring_before ring_after at in
      let here : if1 ((ring_bell == shard_of plan q) && (q == q)) ≡ 1 =
      rw (eq-eqb ring_bell ring_bell refl, eq-eqb q q refl) refl in omega arith

  same_home : (k : ℕ) → (q == k) ≡ true → shard_of plan k ≡ ring_bell
  same_home k e = ap (shard_of plan) (sym (eqb-true q k e))

  on_bell : (k : ℕ) → times k (put l.bells ring_bell (q ∷ l.bells ring_bell) (shard_of plan k))
      ≡ if1 (q == k) + times k (l.bells (shard_of plan k))
  on_bell k = go (shard_of plan k == ring_bell) refl where
    go : (b : Bool) → (shard_of plan k == ring_bell) ≡ b → times k
        (put l.bells ring_bell (q ∷ l.bells ring_bell) (shard_of plan k))
        ≡ if1 (q == k) + times k (l.bells (shard_of plan k))
    go true e = let i = eqb-true (shard_of plan k) ring_bell e in rw
        (i, put_same l.bells ring_bell (q ∷ l.bells ring_bell))
        (times_cons k q (l.bells ring_bell))
    go false e = rw (put_other l.bells ring_bell (shard_of plan k) (q ∷ l.bells ring_bell) e)
        (other (q == k) refl) where
          other : (b : Bool) → (q == k) ≡ b → times k (l.bells (shard_of plan k))
              ≡ if1 b + times k (l.bells (shard_of plan k))
          other true f = let z : true ≡ false = sym (let y : (shard_of plan k == ring_bell) ≡ true =
              rw (same_home k f) (eq-eqb ring_bell ring_bell refl)
              in y) ∙ e in absurd (cc)
          other false f = omega arith

  pub ring_agrees : ListsAgreeOf plan (write w (Bell ring_bell) (local plan q + 1)) (set ps a ring_after) ring_lists
  ring_agrees = record {
    stacks = chains_same _ _ _ _ _ _ _ _ _ _ _ _ _ _ old.stacks (λ q. refl) (λ q s. refl)
        (λ q s. total_same (tying (slot_ref q s)) ps a ring_before ring_after at refl)
        (λ q s. total_same (ties_of (slot_ref q s)) ps a ring_before ring_after at refl)
        (λ q s. total_same (cursor_at q s) ps a ring_before ring_after at refl) (λ q. refl) (λ q. refl);
    bells = chains_push (bell_head plan w.bell_at) (bell_head plan (put w.bell_at ring_bell (local plan q + 1)))
        (bell_link plan w.page_link_at) (λ m k. total (ring_tying plan m k) ps)
        (λ m k. total (ring_tying plan m k) (set ps a ring_after)) (λ m k. total (ring_ties plan m k) ps)
        (λ m k. total (ring_ties plan m k) (set ps a ring_after)) (λ m k. total (bell_cursor_at m k) ps)
        (λ m k. total (bell_cursor_at m k) (set ps a ring_after)) l.bells l.bell_chain ring_bell q old.bells
        (no_ring_ties plan ring_bell q ps) not_rung
        (ap (over_heap plan ring_bell 1) (put_same w.bell_at ring_bell (local plan q + 1)) ∙ over_local plan q)
        (λ g e. ap (over_heap plan g 1) (put_other w.bell_at ring_bell g (local plan q + 1) e)) ring_owed ring_tied
        (λ g i e. (
          total_same (ring_tying plan g i) ps a ring_before ring_after at (rw e refl),
          total_same (ring_ties plan g i) ps a ring_before ring_after at (rw e refl),
        ))
        (λ g i. total_same (bell_cursor_at g i) ps a ring_before ring_after at refl);
    duty = λ k. let c = total_set (rings k) ps a ring_before ring_after at in
        let d = total_same (armed_at k) ps a ring_before ring_after at refl in
        let o = old.duty k in
        let o0 = o.0 in
        let o1 = o.1 in
        let b = on_bell k in (omega arith, omega arith);
    owned = λ m. let z = total_same (owns m) ps a ring_before ring_after at refl in let d = old.owned m
        in (d.0 ∙ sym z, d.1);
    own_notes = homed_set plan w.class_at ps a ring_after old.own_notes (old.own_notes a ring_before at);
  }

-- RingTie stores the page's link
module _ (plan : Plan) (w : Words) (ps : List Body) (l : PutLists) (a : ℕ) (p : Body) (q n : ℕ)
    (old : ListsAgreeOf plan w ps l) (at : slice_get ps a ≡ Some (hand p (RingTying q n))) where
  abbrev ring_tie_before : Body
  ring_tie_before = hand p (RingTying q n)

  abbrev ring_tie_after : Body
  ring_tie_after = hand p Idle

  abbrev ring_tie_bell : ℕ
  ring_tie_bell = shard_of plan q

  ring_tie_tied : total (ring_ties plan ring_tie_bell q) (set ps a ring_tie_after) + 1
      ≡ total (ring_ties plan ring_tie_bell q) ps
  ring_tie_tied =
      let m = total_set (ring_ties plan ring_tie_bell q) ps a ring_tie_before ring_tie_after at in
      let one : if1 ((ring_tie_bell == shard_of plan q) && (q == q)) ≡ 1 =
      rw (eq-eqb ring_tie_bell ring_tie_bell refl, eq-eqb q q refl) refl in omega arith

  abbrev ring_tie_link : ℕ
  ring_tie_link = over_heap plan ring_tie_bell 2 n

  ring_tie_owed : total (ring_tying plan ring_tie_bell q) (set ps a ring_tie_after) + ring_tie_link
      ≡ total (ring_tying plan ring_tie_bell q) ps
  ring_tie_owed =
      let m = total_set (ring_tying plan ring_tie_bell q) ps a ring_tie_before ring_tie_after at in
      let one : cond ((ring_tie_bell == shard_of plan q) && (q == q)) ring_tie_link 0 ≡ ring_tie_link =
      rw (eq-eqb ring_tie_bell ring_tie_bell refl, eq-eqb q q refl) refl
      in omega arith

  ring_tie_once : times q (l.bells ring_tie_bell) + times q (l.bell_chain ring_tie_bell) ≤ 1
  ring_tie_once = let d = old.duty q in let d0 = d.0 in let d1 = d.1 in omega arith

  ring_tie_some : 0 < ring_tie_link
  ring_tie_some =
      let t = ring_tie_tied in
      let o = ring_tie_owed in
      let k = tied_owes (bell_head plan w.bell_at) (bell_link plan w.page_link_at)
      (λ m k. total (ring_tying plan m k) ps) (λ m k. total (ring_ties plan m k) ps)
      (λ m k. total (bell_cursor_at m k) ps) l.bells l.bell_chain ring_tie_bell q old.bells ring_tie_once
      (omega arith) in
      let tt' = old.bells.ties ring_tie_bell q in
      let c = ring_tie_once in
      let z = no_ring_ties plan ring_tie_bell q (set ps a ring_tie_after) (omega arith) in omega arith

  pub ring_tie_agrees : ListsAgreeOf plan (write w (PageLink q) n) (set ps a ring_tie_after) l
  ring_tie_agrees = record {
    stacks = chains_same _ _ _ _ _ _ _ _ _ _ _ _ _ _ old.stacks (λ q. refl) (λ q s. refl)
        (λ q s. total_same (tying (slot_ref q s)) ps a ring_tie_before ring_tie_after at refl)
        (λ q s. total_same (ties_of (slot_ref q s)) ps a ring_tie_before ring_tie_after at refl)
        (λ q s. total_same (cursor_at q s) ps a ring_tie_before ring_tie_after at refl) (λ q. refl) (λ q. refl);
    bells = chains_tie (bell_head plan w.bell_at) (bell_link plan w.page_link_at)
        (bell_link plan (put w.page_link_at q n)) (λ m k. total (ring_tying plan m k) ps)
        (λ m k. total (ring_tying plan m k) (set ps a ring_tie_after)) (λ m k. total (ring_ties plan m k) ps)
        (λ m k. total (ring_ties plan m k) (set ps a ring_tie_after)) (λ m k. total (bell_cursor_at m k) ps)
        (λ m k. total (bell_cursor_at m k) (set ps a ring_tie_after)) l.bells l.bell_chain ring_tie_bell q ring_tie_link
        old.bells ring_tie_once ring_tie_some
        (rw (eq-eqb ring_tie_bell ring_tie_bell refl) (ap (over_heap plan ring_tie_bell 2)
        (put_same w.page_link_at q n))) ring_tie_owed ring_tie_tied
        (λ g i e. (
          links g i e (i == q) refl,
          total_same (ring_tying plan g i) ps a ring_tie_before ring_tie_after at
              (let z : cond ((g == shard_of plan q) && (i == q)) (over_heap plan g 2 n) 0 ≡ 0 = rw e refl in sym z),
          total_same (ring_ties plan g i) ps a ring_tie_before ring_tie_after at
              (let z : if1 ((g == shard_of plan q) && (i == q)) ≡ 0 = rw e refl in sym z),
        ))
        (λ g i. total_same (bell_cursor_at g i) ps a ring_tie_before ring_tie_after at refl);
    duty = λ k. let c = total_same (rings k) ps a ring_tie_before ring_tie_after at refl in
        let d = total_same (armed_at k) ps a ring_tie_before ring_tie_after at refl in
        let o = old.duty k in
        let o0 = o.0 in
        let o1 = o.1 in (omega arith, omega arith);
    owned = λ m. let z = total_same (owns m) ps a ring_tie_before ring_tie_after at refl in let d = old.owned m
        in (d.0 ∙ sym z, d.1);
    own_notes = homed_set plan w.class_at ps a ring_tie_after old.own_notes (old.own_notes a ring_tie_before at);
  } where
    links : (g i : ℕ) → ((g == ring_tie_bell) && (i == q)) ≡ false → (b : Bool) → (i == q) ≡ b
        → bell_link plan (put w.page_link_at q n) g i ≡ bell_link plan w.page_link_at g i
    links g i e true f =
        let c = first_fails (g == ring_tie_bell) (i == q) e f in
        let j = eqb-true i q f in
        let z : (g == shard_of plan i) ≡ false = rw j c in rw z refl
    links g i e false f = rw (put_other w.page_link_at q i n f) refl
