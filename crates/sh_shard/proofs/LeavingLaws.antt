-- A shard is left once all its pages are at rest; otherwise leaving waits. The number of steps of both.
use Rattle.std.proofs.Common.{◌≡◌, ◌≢◌, ℕ, ◌+◌, ◌*◌, ◌<◌, ◌≤◌, ◌⊎◌, inl, inr, ⊎_elim, true, Option, Some, None}
use Rattle.std.proofs.Common.{MatchOption, ap, ◌∙◌, sym, subst, arith}
use Rattle.std.proofs.lemmas.Bool.{cases_eq, cases_lt}
use Rattle.std.proofs.Math.Numerals.{lt_of_le_of_ne}
use Rattle.sh_pass.specs.Passes.{Caller}
use Rattle.sh_pass.specs.Owners.{SeenBell, Aside}
use Rattle.sh_pass.proofs.SameTales.{later_same}
use Rattle.sh_pass.proofs.OwnRuns.{aside_then}
use Rattle.sh_shard.specs.Pages.{Paged, page_at, HasCursor, ShardLeft, StepsForRings, BlankFrom, BlankHasNothing}
use Rattle.sh_shard.specs.Steps.{StepsAtMost}
use Rattle.sh_shard.specs.Bounds.{leave_steps}
use Rattle.sh_shard.specs.Works.{BellDone}
use Rattle.sh_shard.specs.Leaving.{Collecting, PagesEmptied, AtRest, NotAtRest, Waiting, PutsAllBack}
use Rattle.sh_shard.proofs.Bounding.{rings_most}
use Rattle.sh_shard.proofs.BellEmptying.{collecting_more}

-- all pages are at rest if those up to a blank one are
pub all_rest : (opened page : ℕ) (v : Paged) → ((p : ℕ) → p < page → AtRest (page_at v p)) → BlankFrom opened v
    → BlankHasNothing v → opened ≤ page → (p : ℕ) → p < v.count → AtRest (page_at v p)
all_rest opened page v rest blank none l p k = ⊎_elim
    (λ (before : p < page). rest p before)
    (λ (from : page ≤ p). let h = none p k (blank p (omega arith) k) in record { cursor = h.cursor; armed = h.armed })
    (cases_lt p page)

pub rests_more : (v : Paged) (page : ℕ) → ((p : ℕ) → p < page → AtRest (page_at v p)) → AtRest (page_at v page)
    → (p : ℕ) → p < page + 1 → AtRest (page_at v p)
rests_more v page h e p l = ⊎_elim (λ (is : p ≡ page). subst (λ z. AtRest (page_at v z)) (sym is) e)
    (λ (ne : p ≢ page). h p (lt_of_le_of_ne (let z = l in omega arith) ne)) (cases_eq p page)

-- ---- why leaving waits

met_since : (c : Option ℕ) (a m n : ℕ) → HasCursor c → a ≤ m → MatchOption c (Unit {0}) (λ _. m < n) → a < n
met_since None a m n s l h = absurd s
met_since (Some x) a m n s l h = omega arith

bell_met : (c : Option ℕ) (a b m n : ℕ) → HasCursor c → MatchOption c (a < b) (λ _. m < n) → m < n
bell_met None a b m n s h = absurd s
bell_met (Some x) a b m n s h = h

bell_taken : (c : Option ℕ) (a b m n : ℕ) → c ≡ None → MatchOption c (a < b) (λ _. m < n) → a < b
bell_taken None a b m n s h = h
bell_taken (Some x) a b m n s h = absurd (subst HasCursor s tt)

pub waiting : (o m n : Paged) → Collecting o m → BellDone o m → PagesEmptied m n → NotAtRest n → Waiting o n
waiting o m n g b e w = record {
  collects = collecting_more o m n g e.collects;
  why = ⊎_elim
      (λ (s : HasCursor n.bell.cursor). inl (
        s,
        subst (λ (z : SeenBell). o.bell.met < z.met) (sym e.bell)
            (bell_met m.bell.cursor o.bell.takes m.bell.takes o.bell.met m.bell.met
            (subst (λ (z : SeenBell). HasCursor z.cursor) e.bell s) b),
      ))
      (λ (s : (n.bell.cursor ≡ None) × ((p : ℕ) × (p < n.count) ×
      (HasCursor (page_at n p).cursor ⊎ (((page_at n p).cursor ≡ None) × ((page_at n p).armed ≡ true))))). inr
      (s.1.0, s.1.1, page s.0 s.1.0 s.1.1 s.1.2))
      w;
} where
  page : n.bell.cursor ≡ None → (p : ℕ) → p < n.count → HasCursor (page_at n p).cursor
      ⊎ (((page_at n p).cursor ≡ None) × ((page_at n p).armed ≡ true))
      → (HasCursor (page_at n p).cursor × ((page_at o p).met < (page_at n p).met))
      ⊎ ((n.bell.cursor ≡ None) × ((page_at n p).armed ≡ true) × ((page_at o p).takes < (page_at n p).takes)
      × (o.bell.takes < n.bell.takes))
  page none p l (inl s) = inl (
    s,
    met_since (page_at n p).cursor (page_at o p).met (page_at m p).met (page_at n p).met s
        (g.through.met p) (e.pages p l).waits,
  )
  page none p l (inr t) = inr (
    none,
    t.1,
    (let a = g.through.takes p in let z = (e.pages p l).taken t.0 t.1 in omega arith),
    subst (λ (z : SeenBell). o.bell.takes < z.takes) (sym e.bell)
        (bell_taken m.bell.cursor o.bell.takes m.bell.takes o.bell.met m.bell.met
        (sym (ap (λ (z : SeenBell). z.cursor) e.bell) ∙ none) b),
  )

-- ---- the shard is left

pub left_after : (o m : Paged) (w : Caller) → Aside o.owner m.owner → m.owner.view.own.log ≡ o.owner.view.own.log
    → ShardLeft m.owner w → ShardLeft o.owner w
left_after o m w a log h = record {
  heap = h.heap ∙ a.heap;
  same = later_same a.same h.same;
  log = h.log ∙ log;
  holds = h.holds ∙ a.holds;
  hand = h.hand;
  owned = h.owned;
}

pub leaves : (o m n t : Paged) (w : Caller) → Collecting o m → PagesEmptied m n → PutsAllBack n t → ShardLeft t.owner w
    → ShardLeft o.owner w
leaves o m n t w g e b h = left_after o t w (aside_then g.through.aside (aside_then e.collects.through.aside b.aside))
    (b.log ∙ (e.collects.through.log ∙ g.through.log)) h

-- all steps of a leave, and of a leave that waits
pub leaves_in : (o m n t : Paged) (w : Caller) → Collecting o m → StepsForRings 3 o m → PagesEmptied m n
    → PutsAllBack n t → StepsAtMost 1 t.owner w → StepsAtMost (leave_steps o.count) o.owner w
leaves_in o m n t w c g e b h =
    let x = rings_most 3 o m g in
    let s = c.through.count in
    let r = e.collects.through.count in
    let y = e.steps in
    let z = b.steps in sum _ _ _ _ _ o.count m.count n.count x y z h s r
  where
    sum : (a b c d f k l j : ℕ) → b ≤ a + (k + 3) → c ≤ b + 51 * l → d ≤ c + 96 * j → f ≤ d + 1 → l ≡ k → j ≡ l
        → f ≤ a + (148 * k + 4)
    sum a b c d f k l j x y z h s r = omega arith

pub waits_in : (o m n : Paged) → Collecting o m → StepsForRings 3 o m → PagesEmptied m n
    → StepsAtMost (leave_steps o.count) o.owner n.owner
waits_in o m n c g e = sum _ _ _ o.count m.count (rings_most 3 o m g) e.steps c.through.count
  where
    sum : (a b c k l : ℕ) → b ≤ a + (k + 3) → c ≤ b + 51 * l → l ≡ k → c ≤ a + (148 * k + 4)
    sum a b c k l x y s = omega arith
