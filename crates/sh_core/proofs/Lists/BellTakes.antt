-- What is kept of lists, bells, duties and owners, over TakeBell and FollowBell.
use Rattle.std.proofs.Common.{◌≡◌, ℕ, ◌+◌, ◌-◌, ◌<◌, ◌≤◌, ◌==◌, ◌&&◌, Bool, true, false, cond, List, [], ◌∷◌, set, drop}
use Rattle.std.proofs.Common.{sym, refl, ap, ◌∙◌, arith, Option, Some, None, slice_get, eqb-true, eq-eqb}
use Rattle.std.specs.Prelude.{not, nat_lt}
use Rattle.std.proofs.lemmas.Bool.Decides.{nat_tests}
use Rattle.sh_slots.specs.declared.hand.Hand.{Hand}
use Rattle.sh_slots.specs.declared.hand.Hand.TheVariants.{RingTying}
use Rattle.sh_core.specs.Words.{Words, write, put}
use Rattle.sh_shape.specs.declared.places.Place.TheVariants.{PageLink, Bell}
use Rattle.sh_step.specs.Plans.{Plan, shard_of, over_heap}
use Rattle.sh_step.specs.Collections.{total, if1, without}
use Rattle.sh_step.specs.declared.body.Body.{Body}
use Rattle.sh_core.specs.Lists.{PutLists, times, bells_taken}
use Rattle.sh_core.specs.Stacks.{slot_ref, top, link_to, first_is, tying, ties_of, cursor_at, ring_tying, ring_ties}
use Rattle.sh_core.specs.Stacks.{is_at}
use Rattle.sh_core.specs.Stacks.{bell_cursor_at, bell_link, bell_head}
use Rattle.sh_core.specs.Bells.{rings, armed_at, owns}
use Rattle.sh_core.specs.Placed.{ListsAgreeOf}
use Rattle.sh_stack.specs.Stack.{top_item, link_item}
use Rattle.sh_step.specs.Rows.{hand, own}
use Rattle.sh_core.proofs.Sums.PageNumbers.{over_none, over_some}
use Rattle.sh_core.proofs.Sums.Totals.{total_same, total_set, total_at}
use Rattle.sh_core.proofs.Lists.StackSteps.{chains_same, chains_take, chains_follow, chain_link}
use Rattle.sh_core.proofs.Lists.ListsSteps.{homed_set, alone_armed, alone_bell, no_ring_ties}
use Rattle.sh_core.proofs.Sums.Tests.{eqb-comm, if1_self, first_fails}
use Rattle.sh_core.proofs.Sums.ListCounts.{times_cons, no_first, a_first, times_off}
use Rattle.sh_core.proofs.Sums.Writes.{put_same, put_other}

-- the bell's cursor, from the bell's word and from a page's link
is_first : (xs : List ℕ) (q : ℕ) → is_at (top_item (top xs)) q ≡ first_is xs q
is_first [] q = refl
is_first (s ∷ xs) q =
    let e : nat_lt (s + 1) 1 ≡ false = grind (arith, nat_tests) in
    let d : s + 1 - 1 ≡ s = omega arith in rw (e, d) refl

is_linked : (xs : List ℕ) (q : ℕ) → is_at (link_item (link_to xs)) q ≡ first_is xs q
is_linked [] q = refl
is_linked (s ∷ xs) q =
    let e : nat_lt (s + 2) 2 ≡ false = grind (arith, nat_tests) in
    let d : s + 2 - 2 ≡ s = omega arith in rw (e, d) refl

pub owned_at : (n m : ℕ) (o : Option ℕ) (x : ℕ) → o ≡ Some n →
    (elim o as (λ _. ℕ) [ Some k ↦ cond (k == m) x 0 | None ↦ 0 ]) ≡ cond (n == m) x 0
owned_at n m (Some k) x e = let i : k ≡ n = cc in rw i refl
owned_at n m None x e = absurd (let z : None ≡ Some n = e in cc)

-- TakeBell: the bell's pages become its chain
module _ (plan : Plan) (w : Words) (ps : List Body) (l : PutLists) (a : ℕ) (p : Body) (n : ℕ)
    (old : ListsAgreeOf plan w ps l)
    (at : slice_get ps a ≡ Some p) (mine : p.owned ≡ Some n) (no : p.bell_cursor ≡ None) where
  abbrev take_bell_after : Body
  take_bell_after = record p { bell_cursor = top_item (bell_head plan w.bell_at n) }

  take_bell_was : (k q : ℕ) → bell_cursor_at k q p ≡ 0
  take_bell_was k q = owned_at n k p.owned (is_at p.bell_cursor q) mine ∙ rw no (go (n == k)) where
    go : (b : Bool) → cond {A = ℕ} b 0 0 ≡ 0
    go true = refl
    go false = refl

  take_bell_now : (k q : ℕ) → bell_cursor_at k q take_bell_after ≡ cond (n == k) (first_is (l.bells n) q) 0
  take_bell_now k q = owned_at n k p.owned (is_at (top_item (bell_head plan w.bell_at n)) q) mine
      ∙ rw (old.bells.tops n) (ap (λ (m : ℕ). cond (n == k) m 0) (is_first (l.bells n) q))

  no_bell_chain : l.bell_chain n ≡ []
  no_bell_chain = no_first (l.bell_chain n) (λ q. sym (old.bells.cursors n q)
      ∙ alone_bell plan w ps l a p old at n q mine ∙ take_bell_was n q)

  pub take_bell_agrees : ListsAgreeOf plan (write w (Bell n) 0) (set ps a take_bell_after) (bells_taken l n)
  unfolding total
  take_bell_agrees = record {
    stacks = chains_same _ _ _ _ _ _ _ _ _ _ _ _ _ _ old.stacks (λ q. refl) (λ q s. refl)
        (λ q s. total_same (tying (slot_ref q s)) ps a p take_bell_after at refl)
        (λ q s. total_same (ties_of (slot_ref q s)) ps a p take_bell_after at refl)
        (λ q s. total_same (cursor_at q s) ps a p take_bell_after at refl) (λ q. refl) (λ q. refl);
    bells = chains_take (bell_head plan w.bell_at) (bell_head plan (put w.bell_at n 0)) (bell_link plan w.page_link_at)
        (λ m k. total (ring_tying plan m k) ps) (λ m k. total (ring_tying plan m k) (set ps a take_bell_after))
        (λ m k. total (ring_ties plan m k) ps) (λ m k. total (ring_ties plan m k) (set ps a take_bell_after))
        (λ m k. total (bell_cursor_at m k) ps) (λ m k. total (bell_cursor_at m k) (set ps a take_bell_after)) l.bells
        l.bell_chain n old.bells no_bell_chain
        (ap (over_heap plan n 1) (put_same w.bell_at n 0) ∙ over_none plan n 1 (omega arith))
        (λ g e. ap (over_heap plan g 1) (put_other w.bell_at n g 0 e))
        (λ g i. total_same (ring_tying plan g i) ps a p take_bell_after at refl)
        (λ g i. total_same (ring_ties plan g i) ps a p take_bell_after at refl)
        (λ i. let t = total_set (bell_cursor_at n i) ps a p take_bell_after at in let u = take_bell_was n i
        in let v = take_bell_now n i
        in let x : cond (n == n) (first_is (l.bells n) i) 0 ≡ first_is (l.bells n) i = rw (eq-eqb n n refl) refl
        in omega arith)
        (λ g i e. let f : (n == g) ≡ false = eqb-comm n g ∙ e
        in total_same (bell_cursor_at g i) ps a p take_bell_after at
        (let u = take_bell_was g i in let v = take_bell_now g i
        in let x : cond (n == g) (first_is (l.bells n) i) 0 ≡ 0 = rw f refl
        in omega arith));
    duty = λ k. let c = total_same (rings k) ps a p take_bell_after at refl in
        let d = total_same (armed_at k) ps a p take_bell_after at refl in
        let o = old.duty k in
        let o0 = o.0 in
        let o1 = o.1 in
        let m = moved k (shard_of plan k == n) refl in (omega arith, omega arith);
    owned = λ m. let z = total_same (owns m) ps a p take_bell_after at refl in let d = old.owned m
        in (d.0 ∙ sym z, d.1);
    own_notes = let o = old.own_notes a p at in homed_set plan w.class_at ps a take_bell_after old.own_notes (record {
      mines = o.mines;
      points = o.points;
      arms = o.arms;
      bell = λ e. absurd (let z : None ≡ Some n = sym e ∙ mine in cc);
      notes = o.notes;
    });
  } where
    moved : (k : ℕ) (b : Bool) → (shard_of plan k == n) ≡ b → times k (put l.bells n [] (shard_of plan k)) + times k
        (put l.bell_chain n (l.bells n) (shard_of plan k)) ≡ times k (l.bells (shard_of plan k)) + times k
        (l.bell_chain (shard_of plan k))
    moved k true e = let i = eqb-true (shard_of plan k) n e in rw
        (i, put_same l.bells n [], put_same l.bell_chain n (l.bells n), no_bell_chain) (omega arith)
    moved k false e = rw (
      put_other l.bells n (shard_of plan k) [] e,
      put_other l.bell_chain n (shard_of plan k)
          (l.bells n) e,
    )
        refl

-- no pass stores a page's link on another shard's bell, so a page on a bell or its chain is of that shard
pub ties_home : (plan : Plan) (n q : ℕ) → (n == shard_of plan q) ≡ false → (ps : List Body)
    → total (ring_ties plan n q) ps
    ≡ 0
unfolding total
ties_home plan n q h [] = refl
ties_home plan n q h (p ∷ ps) = let one = each (p.hand) in let rest = ties_home plan n q h ps in omega arith where
  each : (h : Hand) → ring_ties plan n q (hand p h) ≡ 0
  each (RingTying k m) = go (q == k) refl where
    go : (b : Bool) → (q == k) ≡ b → if1 ((n == shard_of plan k) && b) ≡ 0
    go true e = let i = eqb-true q k e in let z : (n == shard_of plan k) ≡ false = rw (← i) h in rw z refl
    go false e = all_false (n == shard_of plan k) where
      all_false : (b : Bool) → if1 (b && false) ≡ 0
      all_false true = refl
      all_false false = refl
  each _ = refl

pub bell_home : (plan : Plan) (w : Words) (ps : List Body) (l : PutLists) (n q : ℕ)
    → if1 (not (bell_link plan w.page_link_at n q == 0)) + total (ring_ties plan n q) ps
    ≡ times q (l.bells n) + times q (l.bell_chain n) → 0 < times q (l.bells n) + times q (l.bell_chain n)
    → shard_of plan q ≡ n
bell_home plan w ps l n q ties some = go (n == shard_of plan q) refl where
  go : (b : Bool) → (n == shard_of plan q) ≡ b → shard_of plan q ≡ n
  go true e = sym (eqb-true n (shard_of plan q) e)
  go false e = absurd (
      let nobody = ties_home plan n q e ps in
      let unwritten : if1 (not (bell_link plan w.page_link_at n q == 0)) ≡ 0 = rw e refl in omega arith
      )

-- FollowBell that finds a link: the chain's first page comes off, and is not armed
module _ (plan : Plan) (w : Words) (ps : List Body) (l : PutLists) (a : ℕ) (p : Body) (n q : ℕ)
    (old : ListsAgreeOf plan w ps l) (at : slice_get ps a ≡ Some p) (mine : p.owned ≡ Some n)
    (is : p.bell_cursor ≡ Some q)
    (found : (w.page_link_at q == 0) ≡ false) where
  abbrev follow_bell_after : Body
  follow_bell_after = record p {
    bell_cursor = link_item (over_heap plan (shard_of plan q) 2 (w.page_link_at q));
    armed = without (λ x. x == q) p.armed;
  }

  abbrev bell_left : List ℕ
  bell_left = drop 1 (l.bell_chain n)

  follow_bell_was : (k i : ℕ) → bell_cursor_at k i p ≡ cond (n == k) (if1 (q == i)) 0
  follow_bell_was k i = owned_at n k p.owned (is_at p.bell_cursor i) mine ∙ rw is refl

  bell_chain_is : l.bell_chain n ≡ q ∷ bell_left
  bell_chain_is =
      let c = total_at (bell_cursor_at n q) ps a p at in
      let u = follow_bell_was n q in
      let v : cond (n == n) (if1 (q == q)) 0 ≡ 1 = rw (eq-eqb n n refl, eq-eqb q q refl) refl in
      let e = old.bells.cursors n q in a_first (l.bell_chain n) q (omega arith)

  page_stands : 0 < times q (l.bell_chain n)
  page_stands = let c : times q (l.bell_chain n) ≡ if1 (q == q) + times q bell_left =
      rw bell_chain_is (times_cons q q bell_left)
      in let v = if1_self q in omega arith

  page_home : shard_of plan q ≡ n
  page_home = bell_home plan w ps l n q (old.bells.ties n q) (let s = page_stands in omega arith)

  page_is_home : (n == shard_of plan q) ≡ true
  page_is_home = eq-eqb n (shard_of plan q) (sym page_home)

  page_owned : own plan p q ≡ true
  page_owned = rw mine page_is_home

  page_once : times q (l.bells n) + times q (l.bell_chain n) ≤ 1
  page_once =
      let d = old.duty q in
      let d0 = d.0 in
      let d1 = d.1 in
      let e1 : times q (l.bells (shard_of plan q))
      ≡ times q (l.bells n) = ap (λ (k : ℕ). times q (l.bells k)) page_home in
      let e2 : times q (l.bell_chain (shard_of plan q)) ≡ times q (l.bell_chain n) = ap
      (λ (k : ℕ). times q (l.bell_chain k)) page_home in omega arith

  page_armed : 0 < times q p.armed
  page_armed =
      let d = old.duty q in
      let d0 = d.0 in
      let e2 : times q (l.bell_chain (shard_of plan q)) ≡ times q (l.bell_chain n) = ap
      (λ (k : ℕ). times q (l.bell_chain k)) page_home in
      let s = page_stands in
      let al = alone_armed plan w ps l a p old at q page_owned in omega arith

  link_found : (bell_link plan w.page_link_at n q == 0) ≡ false
  link_found = rw page_is_home (over_some plan n (w.page_link_at q) found)

  links_stay : (g i : ℕ) → ((g == n) && (i == q)) ≡ false → bell_link plan (put w.page_link_at q 0) g i
      ≡ bell_link plan w.page_link_at g i
  links_stay g i e = go (i == q) refl where
    go : (b : Bool) → (i == q) ≡ b → bell_link plan (put w.page_link_at q 0) g i ≡ bell_link plan w.page_link_at g i
    go true f =
        let c = first_fails (g == n) (i == q) e f in
        let j = eqb-true i q f in
        let z : (g == shard_of plan i) ≡ false = rw (j, page_home) c in rw z refl
    go false f = rw (put_other w.page_link_at q i 0 f) refl

  link_cleared : bell_link plan (put w.page_link_at q 0) n q ≡ 0
  link_cleared = rw (page_is_home, put_same w.page_link_at q 0) (over_none plan n 2 (omega arith))

  ring_owed_same : (g i : ℕ) → total (ring_tying plan g i) (set ps a follow_bell_after) ≡ total (ring_tying plan g i) ps
  ring_owed_same g i = total_same (ring_tying plan g i) ps a p follow_bell_after at refl

  ring_tied_same : (g i : ℕ) → total (ring_ties plan g i) (set ps a follow_bell_after) ≡ total (ring_ties plan g i) ps
  ring_tied_same g i = total_same (ring_ties plan g i) ps a p follow_bell_after at refl

  bell_link_is : over_heap plan (shard_of plan q) 2 (w.page_link_at q) ≡ link_to bell_left
  bell_link_is =
      let e : bell_link plan w.page_link_at n q ≡ link_to bell_left = chain_link (bell_head plan w.bell_at)
      (bell_link plan w.page_link_at) (bell_link plan (put w.page_link_at q 0)) (λ m k. total (ring_tying plan m k) ps)
      (λ m k. total (ring_tying plan m k) (set ps a follow_bell_after)) (λ m k. total (ring_ties plan m k) ps)
      (λ m k. total (ring_ties plan m k) (set ps a follow_bell_after)) (λ m k. total (bell_cursor_at m k) ps)
      (λ m k. total (bell_cursor_at m k) (set ps a follow_bell_after)) l.bells l.bell_chain n q bell_left old.bells
      bell_chain_is (no_ring_ties plan n q ps) page_once link_found link_cleared links_stay ring_owed_same
      ring_tied_same in
      let f : bell_link plan w.page_link_at n q ≡ over_heap plan n 2 (w.page_link_at q) = rw page_is_home refl
      in ap (λ (k : ℕ). over_heap plan k 2 (w.page_link_at q)) page_home ∙ sym f ∙ e

  follow_bell_now : (k i : ℕ) → bell_cursor_at k i follow_bell_after ≡ cond (n == k) (first_is bell_left i) 0
  follow_bell_now k i = owned_at n k p.owned
      (is_at (link_item (over_heap plan (shard_of plan q) 2 (w.page_link_at q))) i)
      mine ∙ rw bell_link_is (ap (λ (m : ℕ). cond (n == k) m 0) (is_linked bell_left i))

  pub follow_bell_agrees : ListsAgreeOf plan (write w (PageLink q) 0) (set ps a follow_bell_after)
      (record l { bell_chain = put l.bell_chain n bell_left })
  follow_bell_agrees = record {
    stacks = chains_same _ _ _ _ _ _ _ _ _ _ _ _ _ _ old.stacks (λ q. refl) (λ q s. refl)
        (λ q s. total_same (tying (slot_ref q s)) ps a p follow_bell_after at refl)
        (λ q s. total_same (ties_of (slot_ref q s)) ps a p follow_bell_after at refl)
        (λ q s. total_same (cursor_at q s) ps a p follow_bell_after at refl) (λ q. refl) (λ q. refl);
    bells = chains_follow (bell_head plan w.bell_at) (bell_link plan w.page_link_at)
        (bell_link plan (put w.page_link_at q 0)) (λ m k. total (ring_tying plan m k) ps)
        (λ m k. total (ring_tying plan m k) (set ps a follow_bell_after)) (λ m k. total (ring_ties plan m k) ps)
        (λ m k. total (ring_ties plan m k) (set ps a follow_bell_after)) (λ m k. total (bell_cursor_at m k) ps)
        (λ m k. total (bell_cursor_at m k) (set ps a follow_bell_after)) l.bells l.bell_chain n q bell_left old.bells
        bell_chain_is (no_ring_ties plan n q ps) page_once link_found link_cleared links_stay ring_owed_same
        ring_tied_same
        (λ i.
        let t = total_set (bell_cursor_at n i) ps a p follow_bell_after at in
        let u = follow_bell_was n i in
        let v = follow_bell_now n i in
        let x : cond (n == n) (first_is bell_left i) 0 ≡ first_is bell_left i = rw (eq-eqb n n refl) refl in
        let y : cond (n == n) (if1 (q == i)) 0 ≡ if1 (q == i) = rw (eq-eqb n n refl) refl in omega arith)
        (λ g i e. let f : (n == g) ≡ false = eqb-comm n g ∙ e
        in total_same (bell_cursor_at g i) ps a p follow_bell_after at
        (let u = follow_bell_was g i in let v = follow_bell_now g i in
        let x : cond (n == g) (first_is bell_left i) 0 ≡ 0 = rw f refl in
        let y : cond (n == g) (if1 (q == i)) 0 ≡ 0 = rw f refl in omega arith));
    duty = λ k. let c = total_same (rings k) ps a p follow_bell_after at refl in
        let d = total_set (armed_at k) ps a p follow_bell_after at in
        let o = old.duty k in
        let o0 = o.0 in
        let o1 = o.1 in
        let m = moved k (shard_of plan k == n) refl in
        let b = times_off q k p.armed page_armed in (omega arith, omega arith);
    owned = λ m. let z = total_same (owns m) ps a p follow_bell_after at refl in let d = old.owned m
        in (d.0 ∙ sym z, d.1);
    own_notes = let o = old.own_notes a p at in homed_set plan w.class_at ps a follow_bell_after old.own_notes (record {
      mines = o.mines;
      points = o.points;
      arms = λ k e. let b = times_off q k p.armed page_armed in let y = o.arms k e in omega arith;
      bell = λ e. absurd (let z : None ≡ Some n = sym e ∙ mine in cc);
      notes = o.notes;
    });
  } where
    other : (k : ℕ) → (shard_of plan k == n) ≡ false → (b : Bool) → (q == k) ≡ b → if1 b ≡ 0
    other k e true f = let i = eqb-true q k f in let z : true ≡ false = sym
        (let y : (shard_of plan k == n) ≡ true = rw (← i, page_home) (eq-eqb n n refl) in y) ∙ e in absurd (cc)
    other k e false f = refl

    moved : (k : ℕ) (b : Bool) → (shard_of plan k == n) ≡ b
        → times k (put l.bell_chain n bell_left (shard_of plan k)) + if1 (q == k)
        ≡ times k (l.bell_chain (shard_of plan k))
    moved k true e =
        let i = eqb-true (shard_of plan k) n e in
        let c : times k (l.bell_chain n) ≡ if1 (q == k) + times k bell_left =
        rw bell_chain_is (times_cons k q bell_left)
        in rw (i, put_same l.bell_chain n bell_left) (omega arith)
    moved k false e = let z = other k e (q == k) refl in rw (put_other l.bell_chain n (shard_of plan k) bell_left e)
        (omega arith)
