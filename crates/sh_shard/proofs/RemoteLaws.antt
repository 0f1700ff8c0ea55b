-- Collecting what others freed, page by page.
use Rattle.std.proofs.Common.{◌≡◌, ◌≢◌, ℕ, ◌+◌, ◌*◌, ◌<◌, ◌≤◌, ⊎_elim, Option, Some, None, MatchOption, refl, ◌∙◌, sym}
use Rattle.std.proofs.Common.{subst, arith}
use Rattle.std.proofs.lemmas.Bool.{cases_eq, cases_lt}
use Rattle.std.proofs.Math.Numerals.{lt_of_le_of_ne}
use Rattle.sh_pass.specs.Owners.{SeenPage, SeenBell, HasNothing}
use Rattle.sh_queue.specs.Queues.{PageQueues}
use Rattle.sh_shard.specs.Pages.{Paged, page_at, HasCursor, TakesPage, CursorStops, BlankFrom, BlankHasNothing}
use Rattle.sh_shard.specs.Pages.{StepsForRings}
use Rattle.sh_shard.specs.Steps.{StepsAtMost}
use Rattle.sh_shard.specs.Filing.{ReturnsRising}
use Rattle.sh_shard.specs.Works.{BellDone}
use Rattle.sh_shard.specs.Leaving.{Collecting}
use Rattle.sh_shard.specs.Shards.{ReturnsEach}
use Rattle.sh_shard.specs.RemoteFrees.{PageCollected, CollectsWhole, PagesCollected, CollectServes}
use Rattle.sh_shard.proofs.Works.{through_works}
use Rattle.sh_shard.proofs.Working.{works_more}
use Rattle.sh_shard.proofs.Bounding.{plain_then, slots_then, slots_most, rings_most, steps_none}
use Rattle.sh_shard.proofs.ClassWords.{word_of}
use Rattle.sh_shard.proofs.Waits.{waits_since}
use Rattle.sh_shard.proofs.BellEmptying.{collecting_none, collecting_more}

-- a page without a class has nothing on its stack
pub collects_blank : (p : ℕ) (o n : Paged) → CursorStops p o n → (page_at n p).class ≡ Some 0 → CollectsWhole p o n
collects_blank p o n s blank = record {
  works = s.works;
  arm = s.arm;
  collected = record {
    waits = s.waits;
    taken = λ l e. let z = word_of (page_at o p) 0 (sym s.works.class ∙ blank) in absurd (omega arith);
  };
  steps = let g = s.steps in omega arith;
}

-- the cursor is followed and waits
pub collects_waiting : (p : ℕ) (o n : Paged) → CursorStops p o n → HasCursor (page_at n p).cursor
    → CollectsWhole p o n
collects_waiting p o n s c = record {
  works = s.works;
  arm = s.arm;
  collected = record { waits = s.waits; taken = λ l e. absurd (subst HasCursor e c) };
  steps = let g = s.steps in omega arith;
}

-- it is followed to its end, and what was put on the page is taken and followed
pub collects_taken : (p : ℕ) (o m t n : Paged) → CursorStops p o m → TakesPage p m t → CursorStops p t n
    → CollectsWhole p o n
collects_taken p o m t n s k h = record {
  works = works_more p o t n (works_more p o m t s.works k.works) h.works;
  arm = h.arm ∙ (k.arm ∙ s.arm);
  collected = record {
    waits = waits_since (page_at n p).cursor _ _ _ _ (let a = s.works.met in let b = k.works.met in omega arith)
        h.waits;
    taken = λ l e. let x = s.works.takes in let y = k.takes in let z = h.works.takes in omega arith;
  };
  steps = slots_then 2 1 3 p o t n (slots_then 1 1 2 p o m t s.steps k.steps (omega arith)) h.steps (omega arith);
}

-- the first pages were collected
pub record CollectedBelow (page : ℕ) (o n : Paged) : Type 0 where
  pub collects : Collecting o n
  pub bell : n.bell ≡ o.bell
  pub pages : (p : ℕ) → p < page → PageCollected (page_at o p) (page_at n p)
  pub steps : StepsAtMost (51 * page) o.owner n.owner

pub collected_none : (o : Paged) → CollectedBelow 0 o o
collected_none o = record {
  collects = collecting_none o;
  bell = refl;
  pages = λ p l. absurd (omega arith);
  steps = steps_none 0 o.owner;
}

collected_after : (g h k : SeenPage) → g.class ≡ h.class → g.met ≤ h.met → g.takes ≤ h.takes → PageCollected h k
    → PageCollected g k
collected_after g h k same m t e = record {
  waits = waits_since k.cursor _ g.met h.met k.met m e.waits;
  taken = λ l c. let z = e.taken (subst classed same l) c
      in omega arith;
} where
  classed : Option ℕ → Type 0
  classed c = 0 < elim c [ Some k ↦ k | None ↦ 0 ]

pub collected_more : (page : ℕ) (o n m : Paged) → CollectedBelow page o n → CollectsWhole page n m
    → CollectedBelow (page + 1) o m
collected_more page o n m f e = record {
  collects = collecting_more o n m f.collects (record { through = through_works page n m e.works; arm = e.arm });
  bell = e.works.bell ∙ f.bell;
  pages = λ p l. ⊎_elim
      (λ (is : p ≡ page). subst (λ z. PageCollected (page_at o z) (page_at m z)) (sym is)
      (collected_after (page_at o page) (page_at n page) (page_at m page) (sym (f.collects.through.classes page))
      (f.collects.through.met page) (f.collects.through.takes page) e.collected))
      (λ (ne : p ≢ page). subst (PageCollected (page_at o p)) (sym (e.works.others p ne))
      (f.pages p (lt_of_le_of_ne (let z = l in omega arith) ne)))
      (cases_eq p page);
  steps = plain_then _ _ _ (51 * page) 51 (51 * (page + 1)) f.steps (slots_most 3 51 page n m e.steps (omega arith))
      (omega arith);
}

-- a blank page has no cursor, and needs no step
blank_page : (g h : SeenPage) → g.class ≡ Some 0 → HasNothing h → PageCollected g h
blank_page g h blank none = record {
  waits = subst (λ (z : Option ℕ). MatchOption z (Unit {0}) (λ _. g.met < h.met)) (sym none.cursor) tt;
  taken = λ l c. let z = word_of g 0 blank in absurd (omega arith);
}

pub pages_collected : (opened page : ℕ) (o n : Paged) → CollectedBelow page o n → BlankFrom opened o
    → BlankHasNothing n → opened ≤ page → page ≤ o.count → PagesCollected o n
pages_collected opened page o n f blank none l most = record {
  collects = f.collects;
  bell = f.bell;
  pages = λ p k. ⊎_elim
      (λ (before : p < page). f.pages p before)
      (λ (from : page ≤ p). let is = blank p (omega arith) (let e = f.collects.through.count in omega arith) in
      blank_page (page_at o p) (page_at n p) is (none p k (f.collects.through.classes p ∙ is)))
      (cases_lt p page);
  steps = let g = f.steps in omega arith;
}

-- the bell, then the pages, and then the queues
pub collects_all : (o m n : Paged) (q r : PageQueues) → Collecting o m → BellDone o m → StepsForRings 3 o m
    → PagesCollected m n → ReturnsRising q r → ReturnsEach n q r
    → CollectServes (record { pages = o; queues = q }) (record { pages = n; queues = r })
collects_all o m n q r g b s e z each = record {
  collects = collecting_more o m n g e.collects;
  bell = subst (λ (x : SeenBell). MatchOption x.cursor (o.bell.takes < x.takes) (λ _. o.bell.met < x.met))
      (sym e.bell) b;
  pages = λ p l. collected_after (page_at o p) (page_at m p) (page_at n p) (sym (g.through.classes p))
      (g.through.met p) (g.through.takes p) (e.pages p l);
  opened = z.opened;
  rising = z;
  returns = each;
  steps = plain_then _ _ _ (o.count + 3) (51 * m.count) (52 * o.count + 3) (rings_most 3 o m s) e.steps
      (let c = g.through.count in omega arith);
}
