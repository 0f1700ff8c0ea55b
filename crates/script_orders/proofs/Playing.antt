-- The world after some lines, one line more, and the state in which the lines begin.
use Rattle.std.proofs.Common.{◌≡◌, ℕ, zero, suc, ◌+◌, List, [], ◌∷◌, ◌++◌, length, refl, sym, ap}
use Rattle.std.proofs.Common.{◌∙◌, subst, arith, Some, None, slice_get, append_assoc, append-nil}
use Rattle.std.specs.Prelude.{Ok, replicate}
use Rattle.std.specs.List.{flat_map, range_with_len}
use Rattle.std.proofs.lemmas.List.Concat.{flat_map-append}
use Rattle.std.proofs.lemmas.List.Elements.{All-nil}
use Rattle.sh_key.specs.Layout.{Layout}
use Rattle.sh_shape.specs.Shape.{Numbers}
use Rattle.sh_step.specs.declared.action.Event.{Event}
use Rattle.sh_step.specs.Plans.{Plan, plan_of}
use Rattle.sh_core.specs.declared.outcome.Outcome.{Outcome}
use Rattle.sh_core.specs.Kept.{KeptWorld, Represents, StepsWorld, RunsWorld}
use Rattle.sh_core.specs.Words.{read}
use Rattle.sh_core.specs.Worlds.{World, step, run, open_world}
use Rattle.sh_core.proofs.Words.Steps.{run_snoc}
use Rattle.script_orders.specs.declared.found.Program.{Program}
use Rattle.script_orders.specs.Changes.{IsChange}
use Rattle.script_orders.specs.Lanes.{Did, nothing}
use Rattle.script_orders.specs.Orders.{lines_within, IsOfSome, events_of, replies_from}
use Rattle.script_orders.specs.Reached.{plan_in, world_before, done_by, world_by, HasDone, LeadsTo}
use Rattle.script_orders.specs.States.{left_of, all_left}
use Rattle.script_orders.proofs.Stories.{story_none}
use Rattle.script_orders.proofs.LineOptions.{left}
use Rattle.script_orders.proofs.LineLists.{lines_none, range_split, events_append, event_one, event_none}

-- ---- one more event

pub runs_step : (layout : Layout) (shape : Numbers) (es : List Event) (e : Event) (o : Outcome) (k k' : KeptWorld)
    → RunsWorld layout shape es (Ok k) → StepsWorld layout k e o k' → RunsWorld layout shape (es ++ e ∷ []) (Ok k')
runs_step layout shape es e o k k' (fits, is, stands) steps =
    let plan : Plan = plan_of layout shape in
    let P : Numbers → Type 0 = λ n. Represents k' (step (plan_of layout n) (run plan es) e) in
    let Q : World → Type 0 = λ w. Represents k' w in (
      fits,
      steps.shape ∙ is,
      subst Q (sym (run_snoc plan (open_world plan) es e)) (subst P is (steps.world (run plan es) stands)),
    )

done_more : (p : Program) (order : List ℕ) (n : ℕ) (es : List Event) → events_of p.lines.now (n ∷ []) ≡ es
    → done_by p (order ++ n ∷ []) ≡ done_by p order ++ es
done_more p order n es is =
    ap (λ (fs : List Event). p.before.now ++ fs) (events_append p.lines.now order (n ∷ [])
    ∙ ap (λ (fs : List Event). events_of p.lines.now order ++ fs) is)
    ∙ sym (append_assoc p.before.now (events_of p.lines.now order) es)

pub played_more : (layout : Layout) (p : Program) (order : List ℕ) (n : ℕ) (e : Event) (o : Outcome) (k k' : KeptWorld)
    → slice_get p.lines.now n ≡ Some e → RunsWorld layout p.shape (done_by p order) (Ok k) → StepsWorld layout k e o k'
    → RunsWorld layout p.shape (done_by p (order ++ n ∷ [])) (Ok k')
played_more layout p order n e o k k' at runs steps =
    let P : List Event → Type 0 = λ es. RunsWorld layout p.shape es (Ok k') in
    subst P (sym (done_more p order n (e ∷ []) (event_one p.lines.now n e at)))
    (runs_step layout p.shape (done_by p order) e o k k' runs steps)

pub played_past : (layout : Layout) (p : Program) (order : List ℕ) (n : ℕ) (k : KeptWorld)
    → slice_get p.lines.now n ≡ None → RunsWorld layout p.shape (done_by p order) (Ok k)
    → RunsWorld layout p.shape (done_by p (order ++ n ∷ [])) (Ok k)
played_past layout p order n k at runs =
    let P : List Event → Type 0 = λ es. RunsWorld layout p.shape es (Ok k) in
    subst P (sym (done_more p order n [] (event_none p.lines.now n at) ∙ append-nil (done_by p order))) runs

pub played_none : (layout : Layout) (p : Program) (k : KeptWorld) → RunsWorld layout p.shape p.before.now (Ok k)
    → RunsWorld layout p.shape (done_by p []) (Ok k)
played_none layout p k runs =
    let P : List Event → Type 0 = λ es. RunsWorld layout p.shape es (Ok k) in
    subst P (sym (append-nil p.before.now)) runs

-- ---- the state in which the lines begin

only_nothing : (n a : ℕ) (d : Did) → slice_get (replicate n nothing) a ≡ Some d → d ≡ nothing
only_nothing zero a d h = let z : None ≡ Some d = h in cc
only_nothing (suc n) zero d h = let z : Some nothing ≡ Some d = h in cc
only_nothing (suc n) (suc a) d h = only_nothing n a d h

length_nothing : (n : ℕ) → length (replicate n nothing) ≡ n
length_nothing zero = refl
length_nothing (suc n) = ap (λ (m : ℕ). suc m) (length_nothing n)

nothing_done : (layout : Layout) (p : Program) (a : ℕ) → HasDone layout p [] a nothing
unfolding replies_from
nothing_done layout p a = record {
  lines = sym (lines_none p.lines.now a 0 0 (omega arith));
  within = omega arith;
  replies = refl;
  part = λ start at.
      let same : run (plan_in layout p) p.before.now ≡ world_by layout p [] =
      ap (λ (es : List Event). run (plan_in layout p) es) (sym (append-nil p.before.now)) in (
        start,
        sym (ap (λ (w : World). slice_get w.parts a) same) ∙ at,
        story_none (plan_in layout p) p.lines.now start,
      );
}

pub first_leads : (layout : Layout) (p : Program) (lanes : List Did) → lanes ≡ replicate p.shape.passes nothing
    → LeadsTo layout p [] [] lanes
first_leads layout p lanes none =
    let same : world_before layout p ≡ world_by layout p [] =
    ap (λ (es : List Event). run (plan_in layout p) es) (sym (append-nil p.before.now)) in
    record {
      only = All-nil (IsOfSome p.lines.now p.shape.passes);
      changed = record {
        at = λ place within. ap (λ (w : World). read w.words place) same;
        ascend = tt;
        each = All-nil (IsChange p.shape (world_before layout p).words);
      };
      count = ap (λ (ls : List Did). length ls) none ∙ length_nothing p.shape.passes;
      each = λ a d at.
          let is : d ≡ nothing =
          only_nothing p.shape.passes a d (sym (ap (λ (ls : List Did). slice_get ls a) none) ∙ at) in
          let R : Did → Type 0 = λ x. HasDone layout p [] a x in
          subst R (sym is) (nothing_done layout p a);
    }

-- ---- what the passes have left

pub left_more : (lines : List Event) (lanes : List Did) (n : ℕ) → all_left lines lanes (n + 1)
    ≡ all_left lines lanes n ++ left_of lines lanes n
left_more lines lanes n =
    let e : 0 + n ≡ n = omega arith in
    ap (flat_map (left_of lines lanes)) (range_split 0 n 1)
    ∙ flat_map-append (left_of lines lanes) (range_with_len 0 n) (range_with_len (0 + n) 1)
    ∙ ap (λ (xs : List ℕ). all_left lines lanes n ++ xs) (append-nil (left_of lines lanes (0 + n))
    ∙ ap (left_of lines lanes) e)

pub left_lines : (lines : List Event) (lanes : List Did) (n : ℕ) (d : Did) (start old new : List ℕ)
    → slice_get lanes n ≡ Some d → old ≡ start ++ all_left lines lanes n
    → new ≡ old ++ lines_within lines n d.behind (length lines) → new ≡ start ++ all_left lines lanes (n + 1)
left_lines lines lanes n d start old new at so more =
    let these : List ℕ = lines_within lines n d.behind (length lines) in
    let is : left_of lines lanes n ≡ these = ap (left lines n) at in
    more ∙ ap (λ (xs : List ℕ). xs ++ these) so ∙ append_assoc start (all_left lines lanes n) these
    ∙ ap (λ (xs : List ℕ). start ++ xs) (sym (left_more lines lanes n
    ∙ ap (λ (xs : List ℕ). all_left lines lanes n ++ xs) is))

pub left_past : (lines : List Event) (lanes : List Did) (n : ℕ) (start old : List ℕ) → slice_get lanes n ≡ None
    → old ≡ start ++ all_left lines lanes n → old ≡ start ++ all_left lines lanes (n + 1)
left_past lines lanes n start old at so =
    let is : left_of lines lanes n ≡ [] = ap (left lines n) at in
    so ∙ ap (λ (xs : List ℕ). start ++ xs) (sym (left_more lines lanes n
    ∙ ap (λ (xs : List ℕ). all_left lines lanes n ++ xs) is ∙ append-nil (all_left lines lanes n)))
