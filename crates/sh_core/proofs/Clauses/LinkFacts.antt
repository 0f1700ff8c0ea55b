-- What the links of stacks, chains and bells are, from the sums that the theorem has of them.
use Rattle.std.proofs.Common.{◌≡◌, ℕ, zero, suc, ◌+◌, ◌<◌, ◌==◌, ◌⊎◌, inl, inr, false, List, [], ◌∷◌, refl, ap, arith}
use Rattle.std.specs.Prelude.{not, nat_lt}
use Rattle.std.proofs.lemmas.Bool.Decides.{nat_tests}
use Rattle.sh_step.specs.Collections.{total, if1}
use Rattle.sh_step.specs.Plans.{Plan, shard_of}
use Rattle.sh_core.specs.Bells.{armed_at}
use Rattle.sh_core.specs.Follows.{LinksOn, EachLinked}
use Rattle.sh_core.specs.Lists.{PutLists, slots_under, times}
use Rattle.sh_core.specs.Refines.{Armed, Linked, OneKind, OwnPartsAreValid, Refines}
use Rattle.sh_core.specs.Stacks.{Chained, slot_ref, link_to, ties_of, ring_ties, bell_link}
use Rattle.sh_core.specs.Worlds.{World}
use Rattle.sh_core.proofs.Lists.ListsSteps.{no_ties, no_ring_ties}
use Rattle.sh_core.proofs.Sums.Tests.{if1_few, if1_self}
use Rattle.sh_core.proofs.Sums.Totals.{some_part}
use Rattle.sh_core.proofs.Sums.ListCounts.{times_cons}
use Rattle.sh_core.proofs.Lists.BellTakes.{bell_home}

-- one item's link: with what its pass owes it adds up to what names the rest, and it has one of the two
one_link : (n owed tied next : ℕ) → n + owed ≡ next → if1 (not (n == 0)) + tied ≡ 1 → (tied ≡ 0 → owed ≡ 0)
    → ((n ≡ 0) × (tied ≡ 1)) ⊎ ((n ≡ next) × (tied ≡ 0))
one_link zero owed tied next sum one none = inl (refl, omega arith)
one_link (suc n) owed tied next sum one none =
    let written : (suc n == 0) ≡ false = grind (arith, nat_tests) in
    let some : if1 (not (suc n == 0)) ≡ 1 = rw written refl in
    let free : tied ≡ 0 = omega arith in
    let nothing = none free in inr (omega arith, free)

-- along a list in which each item has its link or one pass that ties it
links_on : (link owed tied : ℕ → ℕ) (xs : List ℕ) → Chained link owed xs
    → ((s : ℕ) → 0 < times s xs → if1 (not (link s == 0)) + tied s ≡ 1) → ((s : ℕ) → tied s ≡ 0 → owed s ≡ 0)
    → LinksOn link tied xs
links_on link owed tied [] chained one none = tt
links_on link owed tied (s ∷ xs) chained one none =
    let first = if1_self s in
    let here = times_cons s s xs in (
      one_link (link s) (owed s) (tied s) (link_to xs) chained.0 (one s (omega arith)) (none s),
      links_on link owed tied
          xs chained.1 (λ t some. one t (let more = times_cons t s xs in omega arith)) none,
    )

module _ (plan : Plan) (w : World) (l : PutLists) (one : OneKind w l) (armed : Armed plan w l)
    (linked : Linked plan w l) (parts : OwnPartsAreValid plan w) where
  -- a slot is at most once on its page
  slot_link : (q s : ℕ) → 0 < times s (l.stack q) + times s (l.chain q)
      → if1 (not (w.words.link_at q s == 0)) + total (ties_of (slot_ref q s)) w.parts ≡ 1
  slot_link q s some =
      let kinds = one (slot_ref q s) in
      let few = if1_few (nat_lt s (slots_under (w.words.class_at q))) in
      let ties = linked.0.ties q s in omega arith

  -- a page is at most once on its bell or that bell's chain, and then armed
  page_link : (n q : ℕ) → 0 < times q (l.bells n) + times q (l.bell_chain n) → (shard_of plan q ≡ n)
      × (if1 (not (bell_link plan w.words.page_link_at n q == 0)) + total (ring_ties plan n q) w.parts ≡ 1)
      × (0 < total (armed_at q) w.parts)
  page_link n q some =
      let ties = linked.1.ties n q in
      let at = bell_home plan w.words w.parts l n q ties some in
      let duty = (armed q).0 in
      let few = (armed q).1 in
      let here : times q (l.bells (shard_of plan q)) + times q (l.bell_chain (shard_of plan q))
      ≡ times q (l.bells n) + times q (l.bell_chain n) = ap
      (λ (k : ℕ). times q (l.bells k) + times q (l.bell_chain k)) at in (at, omega arith, omega arith)

  pub each_linked : EachLinked plan w l
  each_linked = record {
    stack = λ q. links_on _ _ _ (l.stack q) (linked.0.stacks q) (λ s some. slot_link q s (omega arith))
        (λ s. no_ties (slot_ref q s) w.parts);
    chain = λ q. links_on _ _ _ (l.chain q) (linked.0.chains q) (λ s some. slot_link q s (omega arith))
        (λ s. no_ties (slot_ref q s) w.parts);
    bell = λ n. links_on _ _ _ (l.bells n) (linked.1.stacks n) (λ q some. (page_link n q (omega arith)).1)
        (λ q. no_ring_ties plan n q w.parts);
    bell_chain = λ n. links_on _ _ _ (l.bell_chain n) (linked.1.chains n) (λ q some. (page_link n q (omega arith)).1)
        (λ q. no_ring_ties plan n q w.parts);
    home_pages = λ n q some.
        let page = page_link n q some in
        let u = some_part (armed_at q) w.parts page.2 in (page.0, ((parts u.0 u.1 u.2).armed q u.3).2);
  }

pub links_of : (plan : Plan) (w : World) (l : PutLists) → Refines plan w l → EachLinked plan w l
links_of plan w l all = each_linked plan w l all.one_kind all.armed all.linked all.parts
