-- A pass that leaves a shard puts back the slots of its pages.
use Rattle.std.proofs.Common.{◌≡◌, ◌≢◌, ℕ, ◌+◌, ◌*◌, ◌<◌, ◌≤◌, ◌==◌, ◌&&◌, ⊎_elim, true, None, refl, ap, ◌∙◌, sym}
use Rattle.std.proofs.Common.{subst, arith, eq-eqb, ne_eqb}
use Rattle.std.specs.Prelude.{not}
use Rattle.std.proofs.lemmas.Bool.{cases_eq, cases_lt}
use Rattle.std.proofs.Math.Bool.{and-true, and-false}
use Rattle.std.proofs.Math.Numerals.{lt_of_le_of_ne}
use Rattle.sh_pass.specs.Owners.{SeenPage, SeenBell, Aside, page_without}
use Rattle.sh_shard.specs.Pages.{Paged, page_at, own_slots, NothingMine, TakesSteps, BlankFrom, BlankHasNothing}
use Rattle.sh_shard.specs.Steps.{StepsAtMost}
use Rattle.sh_shard.specs.Leaving.{AtRest, AllAtRest, PutsOne, PutsBack, PutsAllBack}
use Rattle.sh_shard.proofs.Sides.{aside_none}
use Rattle.sh_shard.proofs.Bounding.{plain_then, steps_none}
use Rattle.sh_shard.proofs.Counts.{count_less, own_few}
use Rattle.sh_pass.proofs.OwnRuns.{aside_then}

pub puts_one : (o n : Paged) (p s : ℕ) → Aside o.owner n.owner → n.bell ≡ o.bell → n.owner.view.own.log
    ≡ o.owner.view.own.log → n.shard ≡ o.shard → n.count ≡ o.count → TakesSteps 2 o n
    → page_at n p ≡ page_without (page_at o p) s
    → ((q : ℕ) → q ≢ p → page_at n q ≡ page_at o q) → (page_at o p).mine s ≡ true → s < 48 → PutsOne p o n
puts_one o n p s aside bell log shard count steps here others mine small = record {
  steps = steps;
  aside = aside;
  bell = bell;
  log = log;
  shard = shard;
  count = count;
  cursor = ap (λ (g : SeenPage). g.cursor) here;
  armed = ap (λ (g : SeenPage). g.armed) here;
  less = ap (λ (g : SeenPage). own_slots g + 1) here ∙ count_less (page_at o p).mine
      (λ t. (page_at o p).mine t && not (t == s)) s 48 small mine
      (ap (λ b. (page_at o p).mine s && not b) (eq-eqb s s refl) ∙ and-false ((page_at o p).mine s))
      (λ q ne. ap (λ b. (page_at o p).mine q && not b) (ne_eqb q s ne) ∙ and-true ((page_at o p).mine q));
  others = others;
}

-- this number of slots of page p was put back
pub record Putting (turn p : ℕ) (o n : Paged) : Type 0 where
  pub aside : Aside o.owner n.owner
  pub bell : n.bell ≡ o.bell
  pub log : n.owner.view.own.log ≡ o.owner.view.own.log
  pub shard : n.shard ≡ o.shard
  pub count : n.count ≡ o.count
  pub cursor : (page_at n p).cursor ≡ (page_at o p).cursor
  pub armed : (page_at n p).armed ≡ (page_at o p).armed
  pub few : turn + own_slots (page_at n p) ≤ 48
  pub steps : TakesSteps (2 * turn) o n
  pub others : (q : ℕ) → q ≢ p → page_at n q ≡ page_at o q

pub putting_none : (p : ℕ) (o : Paged) → Putting 0 p o o
putting_none p o = record {
  steps = omega arith;
  aside = aside_none o.owner;
  bell = refl;
  log = refl;
  shard = refl;
  count = refl;
  cursor =
      refl;
  armed = refl;
  few = let l = own_few (page_at o p) in omega arith;
  others = λ q ne. refl;
}

pub putting_more : (turn p : ℕ) (o m n : Paged) → Putting turn p o m → PutsOne p m n → Putting (turn + 1) p o n
putting_more turn p o m n g h = record {
  steps = let a = g.steps in let b = h.steps in omega arith;
  aside = aside_then g.aside h.aside;
  bell = h.bell ∙ g.bell;
  log = h.log ∙ g.log;
  shard = h.shard ∙ g.shard;
  count = h.count ∙ g.count;
  cursor = h.cursor ∙ g.cursor;
  armed = h.armed ∙ g.armed;
  few = let a = g.few in let b = h.less in omega arith;
  others = λ q ne. h.others q ne ∙ g.others q ne;
}

put_most : (turn own a b : ℕ) → turn + own ≤ 48 → b ≡ a + 2 * turn → b ≤ a + 96
put_most turn own a b l e = omega arith

pub put_done : (turn p : ℕ) (o m n : Paged) → Putting turn p o m → n ≡ m → NothingMine (page_at m p) → PutsBack p o n
put_done turn p o m n g is none = subst (PutsBack p o) (sym is)
    (record {
      steps = put_most turn _ _ _ g.few g.steps;
      aside = g.aside;
      bell = g.bell;
      log = g.log;
      shard = g.shard;
      count = g.count;
      cursor = g.cursor;
      armed =
          g.armed;
      mine = none;
      others = g.others;
    })

pub never_more : {A : Type 0} (turn p : ℕ) (o n : Paged) → Putting turn p o n → 49 ≤ turn → A
never_more turn p o n g l = let f = g.few in absurd (omega arith)

-- ---- the pages, one after the other

-- the first pages have nothing left
pub record Returning (page : ℕ) (o n : Paged) : Type 0 where
  pub aside : Aside o.owner n.owner
  pub log : n.owner.view.own.log ≡ o.owner.view.own.log
  pub shard : n.shard ≡ o.shard
  pub count : n.count ≡ o.count
  pub bell : n.bell ≡ o.bell
  pub rest : (p : ℕ) → p < o.count → AtRest (page_at n p)
  pub mine : (p : ℕ) → p < page → NothingMine (page_at n p)
  pub later : (p : ℕ) → page ≤ p → page_at n p ≡ page_at o p
  pub steps : StepsAtMost (96 * page) o.owner n.owner

pub returning_none : (o : Paged) → AllAtRest o → Returning 0 o o
returning_none o a = record {
  aside = aside_none o.owner;
  log = refl;
  shard = refl;
  count = refl;
  bell = refl;
  rest = a.pages;
  mine = λ p l. absurd (omega arith);
  later = λ p l. refl;
  steps = steps_none 0 o.owner;
}

pub returning_more : (page : ℕ) (o m n : Paged) → Returning page o m → page < o.count → PutsBack page m n
    → Returning (page + 1) o n
returning_more page o m n g l h = record {
  steps = plain_then _ _ _ (96 * page) 96 (96 * (page + 1)) g.steps h.steps (omega arith);
  aside = aside_then g.aside h.aside;
  log = h.log ∙ g.log;
  shard = h.shard ∙ g.shard;
  count = h.count ∙ g.count;
  bell = h.bell ∙ g.bell;
  rest = λ p k. ⊎_elim
      (λ (is : p ≡ page). subst (λ z. AtRest (page_at n z)) (sym is)
      (record { cursor = h.cursor ∙ (g.rest page l).cursor; armed = h.armed ∙ (g.rest page l).armed }))
      (λ (ne : p ≢ page). subst AtRest (sym (h.others p ne)) (g.rest p k))
      (cases_eq p page);
  mine = λ p k. ⊎_elim
      (λ (is : p ≡ page). subst (λ z. NothingMine (page_at n z)) (sym is) h.mine)
      (λ (ne : p ≢ page). subst NothingMine (sym (h.others p ne))
      (g.mine p (lt_of_le_of_ne (let z = k in omega arith) ne)))
      (cases_eq p page);
  later = λ p k. h.others p (λ (is : p ≡ page). omega arith) ∙ g.later p (omega arith);
}

pub returned : (opened page : ℕ) (o n : Paged) → Returning page o n → o.bell.cursor ≡ None → BlankFrom opened o
    → BlankHasNothing o → opened ≤ page → page ≤ o.count → PutsAllBack o n
returned opened page o n g bell blank none l most = record {
  steps = let h = g.steps in omega arith;
  aside = g.aside;
  log = g.log;
  shard = g.shard;
  bell = ap (λ (b : SeenBell). b.cursor) g.bell ∙ bell;
  pages = λ p k. let e = g.count in record {
    mine = ⊎_elim
        (λ (before : p < page). g.mine p before)
        (λ (from : page ≤ p). subst NothingMine (sym (g.later p from))
        (none p (omega arith) (blank p (omega arith) (omega arith))).mine)
        (cases_lt p page);
    cursor = (g.rest p (omega arith)).cursor;
    armed = (g.rest p (omega arith)).armed;
  };
}
