-- The pages are emptied before a shard is left: each stack is followed to its end, and taken.
use Rattle.std.proofs.Common.{◌≡◌, ◌≢◌, ℕ, ◌+◌, ◌*◌, ◌<◌, ◌≤◌, ⊎_elim, false, Option, MatchOption, refl, ◌∙◌, sym}
use Rattle.std.proofs.Common.{subst, arith}
use Rattle.std.proofs.lemmas.Bool.{cases_eq, cases_lt, false≢true}
use Rattle.std.proofs.Math.Numerals.{lt_of_le_of_ne}
use Rattle.sh_pass.specs.Owners.{SeenPage, HasNothing}
use Rattle.sh_shard.specs.Pages.{Paged, page_at, HasCursor, TakesPage, CursorStops, BlankFrom, BlankHasNothing}
use Rattle.sh_shard.specs.Steps.{StepsAtMost}
use Rattle.sh_shard.specs.Leaving.{Collecting, PageEmptied, EmptiesPage, PagesEmptied}
use Rattle.sh_shard.proofs.Works.{through_works}
use Rattle.sh_shard.proofs.Working.{works_more}
use Rattle.sh_shard.proofs.Bounding.{plain_then, slots_then, slots_most, steps_none}
use Rattle.sh_shard.proofs.Waits.{waits_since}
use Rattle.sh_shard.proofs.BellEmptying.{collecting_none, collecting_more}

pub collecting_works : (p : ℕ) (o n : Paged) → EmptiesPage p o n → Collecting o n
collecting_works p o n h = record { through = through_works p o n h.works; arm = h.arm }

-- the cursor is followed and waits
pub empties_waiting : (p : ℕ) (o n : Paged) → CursorStops p o n → HasCursor (page_at n p).cursor → EmptiesPage p o n
empties_waiting p o n s c = record {
  steps = let g = s.steps in omega arith;
  works = s.works;
  arm = s.arm;
  emptied = record
      { waits = s.waits; taken = λ e a. absurd (subst HasCursor e c) };
}

-- it is followed to its end, and the page is not armed
pub empties_calm : (p : ℕ) (o n : Paged) → CursorStops p o n → (page_at n p).armed ≡ false → EmptiesPage p o n
empties_calm p o n s c = record {
  steps = let g = s.steps in omega arith;
  works = s.works;
  arm = s.arm;
  emptied = record
      { waits = s.waits; taken = λ e a. absurd (false≢true (sym c ∙ a)) };
}

-- it is followed to its end, and what was put on the page is taken and followed
pub empties_taken : (p : ℕ) (o m t n : Paged) → CursorStops p o m → TakesPage p m t → CursorStops p t n
    → EmptiesPage p o n
empties_taken p o m t n s k h =
    let w = works_more p o t n (works_more p o m t s.works k.works) h.works in record {
      steps = slots_then 2 1 3 p o t n (slots_then 1 1 2 p o m t s.steps k.steps (omega arith)) h.steps (omega arith);
      works = w;
      arm = h.arm ∙ (k.arm ∙ s.arm);
      emptied = record {
        waits = waits_since (page_at n p).cursor _ _ _ _ (let a = s.works.met in let b = k.works.met in omega arith)
            h.waits;
        taken = λ e a. let x = s.works.takes in let y = k.takes in let z = h.works.takes in omega arith;
      };
    }

-- the first pages were emptied
pub record Emptying (page : ℕ) (o n : Paged) : Type 0 where
  pub collects : Collecting o n
  pub bell : n.bell ≡ o.bell
  pub pages : (p : ℕ) → p < page → PageEmptied (page_at o p) (page_at n p)
  pub steps : StepsAtMost (51 * page) o.owner n.owner

pub emptying_none : (o : Paged) → Emptying 0 o o
emptying_none o = record {
  collects = collecting_none o;
  bell = refl;
  pages = λ p l. absurd (omega arith);
  steps = steps_none 0 o.owner;
}

emptied_after : (g h k : SeenPage) → g.met ≤ h.met → g.takes ≤ h.takes → PageEmptied h k → PageEmptied g k
emptied_after g h k m t e = record {
  waits = waits_since k.cursor _ g.met h.met k.met m e.waits;
  taken = λ c a. let z = e.taken
      c a in omega arith;
}

pub emptying_more : (page : ℕ) (o n m : Paged) → Emptying page o n → EmptiesPage page n m → Emptying (page + 1) o m
emptying_more page o n m f e = record {
  collects = collecting_more o n m f.collects (collecting_works page n m e);
  bell = e.works.bell ∙ f.bell;
  pages = λ p l. ⊎_elim
      (λ (is : p ≡ page). subst (λ z. PageEmptied (page_at o z) (page_at m z)) (sym is)
      (emptied_after (page_at o page) (page_at n page) (page_at m page) (f.collects.through.met page)
      (f.collects.through.takes page) e.emptied))
      (λ (ne : p ≢ page). subst (PageEmptied (page_at o p)) (sym (e.works.others p ne))
      (f.pages p (lt_of_le_of_ne (let z = l in omega arith) ne)))
      (cases_eq p page);
  steps = plain_then _ _ _ (51 * page) 51 (51 * (page + 1)) f.steps (slots_most 3 51 page n m e.steps (omega arith))
      (omega arith);
}

-- a page in which the owner has nothing is empty
empty_page : (g h : SeenPage) → HasNothing h → PageEmptied g h
empty_page g h none = record {
  waits = subst (λ (z : Option ℕ). MatchOption z (Unit {0}) (λ _. g.met < h.met)) (sym none.cursor) tt;
  taken = λ c a. absurd (false≢true (sym none.armed ∙ a));
}

pub pages_emptied : (opened page : ℕ) (o n : Paged) → Emptying page o n → BlankFrom opened o → BlankHasNothing n
    → opened ≤ page → page ≤ o.count → PagesEmptied o n
pages_emptied opened page o n f blank none l most = record {
  steps = let g = f.steps in omega arith;
  collects = f.collects;
  bell = f.bell;
  pages = λ p k. ⊎_elim
      (λ (before : p < page). f.pages p before)
      (λ (from : page ≤ p). empty_page (page_at o p) (page_at n p) (none p k (f.collects.through.classes p
      ∙ blank p (omega arith) (let e = f.collects.through.count in omega arith))))
      (cases_lt p page);
}
