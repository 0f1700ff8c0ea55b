-- What passes that stopped before they stored a link cut off from the owner.
use Rattle.std.proofs.Common.{◌≡◌, ℕ, zero, suc, ◌+◌, ◌*◌, ◌/◌, ◌%◌, ◌<◌, ◌≤◌, ◌==◌, ◌&&◌, ◌⊎◌, Bool, true, false, List}
use Rattle.std.proofs.Common.{[], ◌∷◌, refl, cond, arith, ap, sym, ◌∙◌, subst, length, inl, inr, eqb-true}
use Rattle.std.specs.Prelude.{not, nat_lt}
use Rattle.std.proofs.lemmas.Bool.Decides.{nat_tests}
use Rattle.std.proofs.lemmas.Nat.{div-add-mod', mod_below}
use Rattle.sh_step.specs.declared.body.Body.{Body}
use Rattle.sh_step.specs.Collections.{total, if1}
use Rattle.sh_slots.specs.declared.hand.Hand.{Hand}
use Rattle.sh_slots.specs.declared.hand.Hand.TheVariants.{Tying, RingTying}
use Rattle.sh_core.specs.Follows.{LinksOn}
use Rattle.sh_core.specs.Lists.{PutLists, accounts, lists_of, slots_under, state_of, times}
use Rattle.sh_step.specs.Plans.{Plan, heap_pages, plan_of, shard_of, over_heap}
use Rattle.sh_core.specs.Refines.{Always, Refines, holds_now, in_hands, marked}
use Rattle.sh_step.specs.Rows.{idle, hand}
use Rattle.sh_core.specs.Stacks.{slot_ref, link_to, ties_of, ring_ties, bell_link}
use Rattle.sh_core.specs.Worlds.{World, run}
use Rattle.sh_core.proofs.Clauses.LinkFacts.{links_of}
use Rattle.sh_core.proofs.Clauses.RunTheorem.{theorem}
use Rattle.sh_core.proofs.Sums.ClassSlots.{under_few}
use Rattle.sh_core.proofs.Sums.ListCounts.{times_cons}
use Rattle.sh_core.proofs.Sums.Tests.{eqb-comm, if1_few, if1_self}
use Rattle.sh_core.proofs.Sums.Totals.{total_le, total_plus}
use Rattle.sh_laws.specs.Garbage.{sum_below, all_holds, busy_passes, FewAreCutOff}
use Rattle.sh_laws.specs.Garbage.{cut_off, slots_cut_off, pages_cut_off, ties_on, rings_for}
use Rattle.sh_laws.proofs.Sums.{below_le, below_plus, below_at, below_ones, below_once, below_swap, below_times}
use Rattle.sh_laws.proofs.Sums.{below_zero, over, over_plus, over_none, total_times}
use Rattle.sh_laws.proofs.Garbage.{has_begun, begun_on, held_on, waited_for, holds_few, busy_few}

-- ---- one list

cut_off_few : (link : ℕ → ℕ) (xs : List ℕ) → cut_off link xs ≤ length xs
unfolding cut_off
cut_off_few link [] = omega arith
cut_off_few link (s ∷ xs) = go (link s == 0) (cut_off_few link xs) where
  go : (b : Bool) → cut_off link xs ≤ length xs → cond b (length (s ∷ xs)) (cut_off link xs) ≤ length (s ∷ xs)
  go true rest = omega arith
  go false rest = omega (arith, rest)

-- if no pass ties an item of the list, each link is written; `word` is what the item's word has
none_cut_off : (word link tied : ℕ → ℕ) (xs : List ℕ) → LinksOn link tied xs → ((s : ℕ) → tied s ≡ 0)
    → ((s : ℕ) → word s ≡ 0 → link s ≡ 0) → cut_off word xs ≡ 0
unfolding cut_off
none_cut_off word link tied [] on free same = refl
none_cut_off word link tied (s ∷ xs) on free same =
    go (word s == 0) refl on.0 (none_cut_off word link tied xs on.1 free same) where
      go : (b : Bool) → (word s == 0) ≡ b → ((link s ≡ 0) × (tied s ≡ 1)) ⊎ ((link s ≡ link_to xs) × (tied s ≡ 0))
          → cut_off word xs ≡ 0 → cond b (length (s ∷ xs)) (cut_off word xs) ≡ 0
      go false is one rest = rest
      go true is (inl unwritten) rest = let no = free s in let one = unwritten.1 in absurd (omega (arith, no, one))
      go true is (inr written) rest =
          let none = same s (eqb-true (word s) 0 is) in
          let its = written.0 in
          let some = elim xs as (λ ys. 0 < link_to ys) [ [] ↦ omega arith | t ∷ ts ↦ omega arith ] in
          absurd (omega (arith, none, its, some))

-- a list of items that are each at one of n places
listed : (at : ℕ → ℕ) (n : ℕ) (xs : List ℕ) → ((t : ℕ) → 0 < times t xs → (i : ℕ) × (i < n) × (at i ≡ t))
    → length xs ≤ sum_below (λ i. times (at i) xs) n
listed at n [] each = omega arith
listed at n (t ∷ xs) each =
    let first = if1_self t in
    let here = times_cons t t xs in
    let place = each t (omega (arith, first, here)) in
    let rest = listed at n xs (λ s some. each s (let more = times_cons s t xs in omega (arith, some, more))) in
    let same : if1 (t == at place.0) ≡ 1 = ap (λ (k : ℕ). if1 (t == k)) place.2 ∙ first in
    let one = below_at (λ i. if1 (t == at i)) n place.0 place.1 in
    let both = below_plus (λ i. if1 (t == at i)) (λ i. times (at i) xs) n in
    let sum = below_le (λ i. if1 (t == at i) + times (at i) xs) (λ i. times (at i) (t ∷ xs)) n
    (λ i less. let more = times_cons (at i) t xs in omega (arith, more)) in
    omega (arith, rest, same, one, both, sum)

-- two lists that have each item once together
two_lists : (at : ℕ → ℕ) (n : ℕ) (xs ys : List ℕ)
    → ((t : ℕ) → 0 < times t xs + times t ys → (i : ℕ) × (i < n) × (at i ≡ t))
    → ((t : ℕ) → times t xs + times t ys ≤ 1) → length xs + length ys ≤ n
two_lists at n xs ys each once =
    let a = listed at n xs (λ t some. each t (omega (arith, some))) in
    let b = listed at n ys (λ t some. each t (omega (arith, some))) in
    let both = below_plus (λ i. times (at i) xs) (λ i. times (at i) ys) n in
    let few = below_le (λ i. times (at i) xs + times (at i) ys) (λ i. 1) n (λ i less. once (at i)) in
    let ones = below_ones n in omega (arith, a, b, both, few, ones)

-- ---- pages and bells

tie_is_on : (q s : ℕ) (p : Body) (h : Hand) → ties_of (slot_ref q s) (hand p h) ≤ ties_on q (hand p h)
tie_is_on q s p (Tying x l r) = go (q == x.page) refl where
  go : (b : Bool) → (q == x.page) ≡ b → if1 (b && (s == x.slot)) ≤ if1 (x.page == q)
  go true is =
      let same : if1 (x.page == q) ≡ 1 = ap (λ (k : ℕ). if1 (x.page == k)) (eqb-true q x.page is) ∙ if1_self x.page in
      let one = if1_few (s == x.slot) in omega (arith, same, one)
  go false is = omega arith
tie_is_on q s p _ = omega arith

ring_is_for : (plan : Plan) (n q : ℕ) (p : Body) (h : Hand)
    → ring_ties plan n q (hand p h) ≤ rings_for plan n (hand p h)
ring_is_for plan n q p (RingTying k l) = go (n == shard_of plan k) refl where
  go : (b : Bool) → (n == shard_of plan k) ≡ b → if1 (b && (q == k)) ≤ if1 (shard_of plan k == n)
  go true is =
      let same : if1 (shard_of plan k == n) ≡ 1 =
      ap (λ (m : ℕ). if1 (shard_of plan k == m)) (eqb-true n (shard_of plan k) is) ∙ if1_self (shard_of plan k) in
      let one = if1_few (q == k) in omega (arith, same, one)
  go false is = omega arith
ring_is_for plan n q p _ = omega arith

-- a page that links nothing links nothing on a bell
no_link : (plan : Plan) (f : ℕ → ℕ) (n q : ℕ) → f q ≡ 0 → bell_link plan f n q ≡ 0
unfolding over_heap
no_link plan f n q none = go (n == shard_of plan q) where
  go : (b : Bool) → cond b (over_heap plan n 2 (f q)) 0 ≡ 0
  go true = rw none refl
  go false = refl

-- if nothing is cut off without a pass, something is only by one, and no more for each than in all
some_pass : (cut passes : ℕ) → (passes ≡ 0 → cut ≡ 0) → 0 < cut → 0 < passes
some_pass cut zero none some = let no = none refl in absurd (omega (arith, no, some))
some_pass cut (suc passes) none some = omega arith

cut_off_by : (cut passes most : ℕ) → (passes ≡ 0 → cut ≡ 0) → cut ≤ most → cut ≤ most * passes
cut_off_by cut zero most none few = let no = none refl in omega (arith, no)
cut_off_by cut (suc passes) most none few = omega (arith, few)

module _ (plan : Plan) (w : World) (l : PutLists) (all : Refines plan w l) where
  -- a slot of a page's lists is one of its class, and is there once
  slot_times : (q s : ℕ)
      → times s (l.stack q) + times s (l.chain q) ≤ if1 (nat_lt s (slots_under (w.words.class_at q)))
  slot_times q s = let kind = all.one_kind (slot_ref q s) in omega (arith, kind)

  queued_few : (q : ℕ) → length (l.stack q) + length (l.chain q) ≤ slots_under (w.words.class_at q)
  queued_few q = two_lists (λ i. i) (slots_under (w.words.class_at q)) (l.stack q) (l.chain q)
      (λ t some. (t, below t some, refl))
      (λ t. let few = slot_times q t in let one = if1_few (nat_lt t (slots_under (w.words.class_at q)))
      in omega (arith, few, one)) where
        below : (t : ℕ) → 0 < times t (l.stack q) + times t (l.chain q) → t < slots_under (w.words.class_at q)
        below t some = go (nat_lt t (slots_under (w.words.class_at q))) refl (slot_times q t) where
          go : (b : Bool) → nat_lt t (slots_under (w.words.class_at q)) ≡ b
              → times t (l.stack q) + times t (l.chain q) ≤ if1 b → t < slots_under (w.words.class_at q)
          go true is few = grind (arith, nat_tests, is)
          go false is few = absurd (omega (arith, some, few))

  no_slots : (q : ℕ) → total (ties_on q) w.parts ≡ 0 → slots_cut_off w l q ≡ 0
  no_slots q free =
      let tied : ℕ → ℕ = λ s. total (ties_of (slot_ref q s)) w.parts in
      let no : (s : ℕ) → tied s ≡ 0 = λ s. let less = total_le (ties_of (slot_ref q s)) (ties_on q)
      (λ p. tie_is_on q s p p.hand) w.parts in omega (arith, less, free) in
      let links = links_of plan w l all in
      let a = none_cut_off (w.words.link_at q) (w.words.link_at q) tied (l.stack q) (links.stack q) no (λ s e. e) in
      let b = none_cut_off (w.words.link_at q) (w.words.link_at q) tied (l.chain q) (links.chain q) no (λ s e. e) in
      omega (arith, a, b)

  cut_few : (q : ℕ) → slots_cut_off w l q ≤ slots_under (w.words.class_at q)
  cut_few q =
      let a = cut_off_few (w.words.link_at q) (l.stack q) in
      let b = cut_off_few (w.words.link_at q) (l.chain q) in
      let few = queued_few q in omega (arith, a, b, few)

  -- a page of a bell's lists is one of the shard, and is there once
  page_once : (n q : ℕ) → times q (l.bells n) + times q (l.bell_chain n) ≤ 1
  page_once n q = go (times q (l.bells n) + times q (l.bell_chain n)) refl where
    go : (m : ℕ) → times q (l.bells n) + times q (l.bell_chain n) ≡ m → times q (l.bells n) + times q (l.bell_chain n)
        ≤ 1
    go zero is = omega (arith, is)
    go (suc m) is =
        let home : shard_of plan q ≡ n = ((links_of plan w l all).home_pages n q (omega (arith, is))).0 in
        let armed = all.armed q in
        let one : times q (l.bells (shard_of plan q)) + times q (l.bell_chain (shard_of plan q)) ≤ 1 =
        let a = armed.0 in let b = armed.1 in omega (arith, a, b) in
        subst (λ (k : ℕ). times q (l.bells k) + times q (l.bell_chain k) ≤ 1) home one

  rung_few : (n : ℕ) → length (l.bells n) + length (l.bell_chain n) ≤ plan.pages
  unfolding shard_of
  rung_few n = two_lists (λ i. n * plan.pages + i) plan.pages (l.bells n) (l.bell_chain n)
      (λ q some. let home = (links_of plan w l all).home_pages n q some
      in (q % plan.pages, below q home.1, place q home.0))
      (page_once n) where
        pages_of : (m q : ℕ) → q < plan.shards * m → 0 < m
        pages_of zero q less = absurd (omega (arith, less))
        pages_of (suc m) q less = omega arith

        below : (q : ℕ) → q < heap_pages plan → q % plan.pages < plan.pages
        below q less = mod_below q plan.pages (pages_of plan.pages q less)

        place : (q : ℕ) → q / plan.pages ≡ n → n * plan.pages + q % plan.pages ≡ q
        place q home = ap (λ (m : ℕ). m * plan.pages + q % plan.pages) (sym home) ∙ div-add-mod' q plan.pages

  no_pages : (n : ℕ) → total (rings_for plan n) w.parts ≡ 0 → pages_cut_off w l n ≡ 0
  no_pages n free =
      let link : ℕ → ℕ = bell_link plan w.words.page_link_at n in
      let tied : ℕ → ℕ = λ q. total (ring_ties plan n q) w.parts in
      let no : (q : ℕ) → tied q ≡ 0 = λ q. let less = total_le (ring_ties plan n q) (rings_for plan n)
      (λ p. ring_is_for plan n q p p.hand) w.parts in omega (arith, less, free) in
      let same : (q : ℕ) → w.words.page_link_at q ≡ 0 → link q ≡ 0 = no_link plan w.words.page_link_at n in
      let links = links_of plan w l all in
      let a = none_cut_off w.words.page_link_at link tied (l.bells n) (links.bell n) no same in
      let b = none_cut_off w.words.page_link_at link tied (l.bell_chain n) (links.bell_chain n) no same in
      omega (arith, a, b)

  pages_few : (n : ℕ) → pages_cut_off w l n ≤ plan.pages
  pages_few n =
      let a = cut_off_few w.words.page_link_at (l.bells n) in
      let b = cut_off_few w.words.page_link_at (l.bell_chain n) in
      let few = rung_few n in omega (arith, a, b, few)

  -- ---- the whole heap

  -- how many pages a pass is tying on: one at most, and then it is on no slot
  abbrev tied_pages : Body → ℕ
  tied_pages p = sum_below (λ q. ties_on q p) (heap_pages plan)

  on_one : (p : Body) (h : Hand) → over plan w (λ x. has_begun plan w x (hand p h)) + 48 * tied_pages (hand p h)
      ≤ 48 * if1 (not (idle (hand p h)))
  on_one p (Tying x l r) =
      let none = over_none plan w in
      let flip = below_le (λ q. if1 (x.page == q)) (λ q. if1 (q == x.page)) (heap_pages plan)
      (λ q less. let same : if1 (x.page == q) ≡ if1 (q == x.page) = ap if1 (eqb-comm x.page q)
      in omega (arith, same)) in
      let one = below_once x.page (heap_pages plan) in omega (arith, none, flip, one)
  on_one p h =
      let begun = begun_on plan w p h in
      let none = below_zero (heap_pages plan) in omega (arith, begun, none)

  -- what a pass holds, has begun and cuts off
  abbrev has_in_all : Body → ℕ
  has_in_all p = over plan w (λ x. holds_now plan x (state_of w x) p + has_begun plan w x p) + 48 * tied_pages p

  in_all_few : (p : Body) → has_in_all p ≤ length p.holds + 48 * if1 (not (idle p))
  in_all_few p =
      let sum = over_plus plan w (λ x. holds_now plan x (state_of w x) p) (λ x. has_begun plan w x p) in
      let holds = held_on plan w p in
      let begun = on_one p p.hand in omega (arith, sum, holds, begun)

  cut_in_all : sum_below (slots_cut_off w l) (heap_pages plan) ≤ total (λ (p : Body). 48 * tied_pages p) w.parts
  cut_in_all =
      let each = below_le (slots_cut_off w l) (λ q. 48 * total (ties_on q) w.parts) (heap_pages plan)
      (λ q less. cut_off_by (slots_cut_off w l q) (total (ties_on q) w.parts) 48 (no_slots q)
      (let few = cut_few q in let most = under_few (w.words.class_at q) in omega (arith, few, most))) in
      let times = below_times 48 (λ q. total (ties_on q) w.parts) (heap_pages plan) in
      let swap = below_swap ties_on (heap_pages plan) w.parts in
      let out = total_times 48 tied_pages w.parts in omega (arith, each, times, swap, out)

  in_all : over plan w (λ x. marked (state_of w x) + in_hands w x)
      + sum_below (slots_cut_off w l) (heap_pages plan) ≤ all_holds w + 48 * busy_passes w
  in_all =
      let waited = waited_for plan w l all in
      let cut = cut_in_all in
      let both = total_plus
      (λ (p : Body). over plan w (λ x. holds_now plan x (state_of w x) p + has_begun plan w x p))
      (λ (p : Body). 48 * tied_pages p) w.parts in
      let each = total_le has_in_all (λ (p : Body). length p.holds + 48 * if1 (not (idle p))) in_all_few w.parts in
      let sum = total_plus (λ (p : Body). length p.holds) (λ (p : Body). 48 * if1 (not (idle p))) w.parts in
      let out = total_times 48 (λ (p : Body). if1 (not (idle p))) w.parts in
      omega (arith, waited, cut, both, each, sum, out)

  few_are_cut_off : FewAreCutOff plan w l
  unfolding accounts
  few_are_cut_off =
      let sum = over_plus plan w (λ x. marked (state_of w x)) (in_hands w) in
      let holds = holds_few plan w l all in
      let busy = busy_few plan w l all in record {
        slots = cut_few;
        by_ties = λ q. some_pass (slots_cut_off w l q) (total (ties_on q) w.parts) (no_slots q);
        pages = pages_few;
        by_rings = λ m. some_pass (pages_cut_off w l m) (total (rings_for plan m) w.parts) (no_pages m);
        together = omega (arith, sum, in_all);
        few = omega (arith, sum, in_all, holds, busy);
      }

pub cut_off_is_bounded : Always FewAreCutOff
cut_off_is_bounded layout shape a b f es = few_are_cut_off (plan_of layout shape) (run (plan_of layout shape) es)
    (lists_of (plan_of layout shape) es) (theorem layout shape a b f es)
