-- What a step of the owner does on the bell of its shard.
use Rattle.std.proofs.Common.{◌≡◌, ◌≢◌, ℕ, ◌+◌, ◌<◌, ◌==◌, ⊎_elim, true, false, cond, Option, None, MatchOption, []}
use Rattle.std.proofs.Common.{List, length, set, refl, ap, ◌∙◌, sym, subst, arith, append-nil}
use Rattle.std.proofs.lemmas.Bool.{cases_eq}
use Rattle.std.proofs.lemmas.Bool.Decides.{nat_tests}
use Rattle.sh_key.specs.Layout.{Layout}
use Rattle.sh_slots.specs.declared.hand.Hand.TheVariants.{Idle}
use Rattle.sh_states.specs.declared.states.PageState.{PageState}
use Rattle.sh_states.specs.States.{state_at}
use Rattle.sh_pass.specs.Passes.{Caller}
use Rattle.sh_pass.specs.Owners.{SeenBell, OwnerActs, OnPage, SamePages, NonePut, NoneArmed, heap_page, seen_bell}
use Rattle.sh_pass.specs.Owners.{page_on_bell, page_rung, bell_taken, bell_followed}
use Rattle.sh_shard.specs.Pages.{Paged, shard_page, BellTakes, BellStops, BellReads}
use Rattle.sh_shard.proofs.Sides.{aside_none}
use Rattle.sh_shard.proofs.Bounding.{rings_same, rings_none}
use Rattle.sh_shard.proofs.Keeping.{page_of, here_at, others_at, all_at}
use Rattle.sh_shard.proofs.Counts.{armed_alike}
use Rattle.sh_shard.proofs.Waits.{waits_at}
use Rattle.sh_shard.proofs.PageSteps.{paged_of, set_size}
use Rattle.sh_shard.proofs.Slots.{same_is, lists_none, lists_of, lists_set, lists_beside}

pub bell_took : (layout : Layout) (n shard : ℕ) (k : List PageState) (v w : Caller) → OwnerActs Idle [] 1 v w
    → seen_bell layout w shard ≡ bell_taken v shard n (seen_bell layout v shard) → SamePages v w → NonePut v w
    → NoneArmed v w → BellTakes (paged_of layout v shard k) (paged_of layout w shard k)
bell_took layout n shard k v w acts bell pages put arm = record {
  aside = acts.aside;
  put = put;
  arm = arm;
  log = acts.log ∙ append-nil v.view.own.log;
  shard = refl;
  count = refl;
  takes = ap (λ (b : SeenBell). b.takes) bell;
  met = ap (λ (b : SeenBell). b.met) bell;
  pages = all_at v w shard acts.aside.same.shape pages;
  lists = lists_none (paged_of layout v shard k);
  steps = rings_same _ _ _ _ 1 acts.steps (armed_alike (paged_of layout v shard k) (paged_of layout w shard k) refl
      (all_at v w shard acts.aside.same.shape pages));
}

pub bell_stopped : (layout : Layout) (p n shard : ℕ) (k : List PageState) (v w : Caller) → OwnerActs Idle [] 1 v w
    → seen_bell layout w shard ≡ bell_followed v shard n (seen_bell layout v shard)
    → OnPage (heap_page v (shard_page shard p)) (page_rung (page_of v shard p) n) v w → NonePut v w → NoneArmed v w → n
    ≡ 0
    → BellStops (paged_of layout v shard k) (paged_of layout w shard k)
bell_stopped layout p n shard k v w acts bell on put arm none =
    let e : (n == 0) ≡ true = grind (arith, nat_tests) in
    let b : SeenBell = seen_bell layout v shard in
    let is : seen_bell layout w shard ≡ record b { met = b.met + 1 } = bell
    ∙ ap (λ t. cond t (record b { met = b.met + 1 }) (record b { cursor = page_on_bell v shard 2 n })) e in
    let met : (seen_bell layout w shard).met ≡ b.met + 1 = ap (λ (z : SeenBell). z.met) is in
    let here : page_of w shard p ≡ page_of v shard p = here_at v w shard p acts.aside.same.shape on
    ∙ ap (λ t. cond t (page_of v shard p) (record (page_of v shard p) { armed = false })) e in
    let pages : (q : ℕ) → page_of w shard q ≡ page_of v shard q =
    λ q. ⊎_elim (λ (same : q ≡ p). subst (λ z. page_of w shard z ≡ page_of v shard z) (sym same) here)
    (λ (ne : q ≢ p). others_at v w shard p acts.aside.same.shape on q ne) (cases_eq q p) in record {
      aside = acts.aside;
      put = put;
      arm = arm;
      log = acts.log ∙ append-nil v.view.own.log;
      shard = refl;
      count = refl;
      takes = ap (λ (z : SeenBell). z.takes) is;
      met = omega (arith, met);
      waits = waits_at (seen_bell layout w shard).cursor b.met (seen_bell layout w shard).met (omega (arith, met));
      pages = pages;
      lists = lists_none (paged_of layout v shard k);
      steps = rings_same _ _ _ _ 1 acts.steps
          (armed_alike (paged_of layout v shard k) (paged_of layout w shard k) refl pages);
    }

pub bell_read : (layout : Layout) (p n shard : ℕ) (k k' : List PageState) (st : PageState) (v w : Caller)
    → OwnerActs Idle [] 1 v w
    → seen_bell layout w shard ≡ bell_followed v shard n (seen_bell layout v shard)
    → OnPage (heap_page v (shard_page shard p)) (page_rung (page_of v shard p) n) v w → NonePut v w → NoneArmed v w
    → (n ≡ 0 → ⊥) → k' ≡ set k p st → st.lists ≡ (state_at k p).lists → p < length k
    → (page_of v shard p).armed ≡ true
    → BellReads p (paged_of layout v shard k) (paged_of layout w shard k')
bell_read layout p n shard k k' st v w acts bell on put arm some changed alike inside was =
    let size : length k' ≡ length k = set_size p k k' st changed in
    let e : (n == 0) ≡ false = grind (arith, nat_tests) in
    let b : SeenBell = seen_bell layout v shard in
    let is : seen_bell layout w shard ≡ record b { cursor = page_on_bell v shard 2 n } = bell
    ∙ ap (λ t. cond t (record b { met = b.met + 1 }) (record b { cursor = page_on_bell v shard 2 n })) e in record {
      aside = acts.aside;
      put = put;
      arm = arm;
      log = acts.log ∙ append-nil v.view.own.log;
      shard = refl;
      count = size;
      takes = ap (λ (z : SeenBell). z.takes) is;
      met = ap (λ (z : SeenBell). z.met) is;
      inside = omega arith;
      was = was;
      here = here_at v w shard p acts.aside.same.shape on ∙ ap
          (λ t. cond t (page_of v shard p) (record (page_of v shard p) { armed = false })) e;
      others = others_at v w shard p acts.aside.same.shape on;
      lists = lists_of p (paged_of layout v shard k) (paged_of layout w shard k')
          (same_is _ _ (lists_set p k k' st changed inside ∙ alike)) (lists_beside p k k' st changed);
      steps = acts.steps;
    }

pub bell_waits_none : (o : Paged) → o.bell.cursor ≡ None → BellStops o o
bell_waits_none o e = record {
  aside = aside_none o.owner;
  put = refl;
  arm = refl;
  log = refl;
  shard = refl;
  count =
      refl;
  takes = refl;
  met = omega arith;
  waits = subst (λ (c : Option ℕ). MatchOption c (Unit {0})
      (λ _. o.bell.met < o.bell.met)) (sym e) tt;
  pages = λ q. refl;
  lists = lists_none o;
  steps = rings_none 1 o;
}
