-- The lines of a run in one thread are a run of the core on their steps, one line after the other.
use Rattle.std.proofs.Common.{◌≡◌, ◌≢◌, ℕ, ◌<◌, ◌≤◌, List, [], ◌∷◌, ◌++◌, length, slice_get, Option, Some, None, refl}
use Rattle.std.proofs.Common.{ap, sym, ◌∙◌, subst, arith, append-nil, append_assoc}
use Rattle.std.proofs.lemmas.List.{length-append}
use mathlib.Core.Logic.{dite}
use native.Mathlib.Decide.{ℕ_discrete}
use Rattle.sh_key.specs.Layout.{Layout}
use Rattle.sh_shape.specs.Shape.{Numbers}
use Rattle.sh_slots.specs.declared.hand.Hand.TheVariants.{Idle}
use Rattle.sh_shape.specs.Places.{pages_of}
use Rattle.sh_step.specs.declared.action.Event.{Event}
use Rattle.sh_step.specs.declared.body.Body.{Body}
use Rattle.sh_step.specs.declared.footstep.Footstep.{Footstep}
use Rattle.sh_step.specs.Footsteps.{bell_met}
use Rattle.sh_step.specs.Parts.{newcomer}
use Rattle.sh_step.specs.Plans.{Plan, plan_of}
use Rattle.sh_core.specs.Trails.{trail_of, body_by, decided}
use Rattle.sh_core.proofs.Entries.{steps_make_entries}
use Rattle.sh_core.proofs.Replays.{steps_make_parts}
use Rattle.sh_core.proofs.Words.Trails.{trail_goes_on}
use Rattle.sh_history.specs.declared.log.LogEntry.{LogEntry}
use Rattle.sh_table.specs.declared.view.Order.{Order}
use Rattle.sh_table.specs.Reached.{StepsBefore}
use Rattle.sh_table.specs.Seats.{Heap}
use Rattle.sh_table.specs.Views.{Each}
use Rattle.sh_pass.specs.Growing.{GoesOn}
use Rattle.sh_pass.specs.Owners.{SeenBell}
use Rattle.sh_member.specs.declared.member.Side.TheVariants.{Pass, Shard}
use Rattle.sh_member.specs.Sides.{SeenSide, SideIsValid}
use Rattle.sh_script.specs.declared.calls.CallLine.{CallLine}
use Rattle.script_output.specs.declared.answer.Answer.{Answer}
use Rattle.script_calls.specs.OwnParts.{PartIsTrue, own_part, shape_in, steps_of}
use Rattle.script_calls.specs.Parts.{RunTerms, PassPart, heap_terms, new_side, shard_owned}
use Rattle.script_calls.specs.Runs.{CallsRun, LineAnswered, opening_calls}
use Rattle.script_calls.specs.Stepping.{HeardOfSteps, LinesHeard, StepsInTurn}
use Rattle.script_calls.proofs.LineLemmas.{part_there}
use Rattle.script_calls.proofs.PartsGoOn.{line_follows, goes_then, goes_to_end}
use Rattle.script_heap.specs.ByLine.{KnowsBell, HasPart, HaveParts, RunsByLine}
use Rattle.script_heap.specs.HeapOutput.{EndsInRun}
use Rattle.sh_quiet.proofs.Cuts.{CutBefore, none_done, same_front}
use Rattle.script_heap.proofs.LineCuts.{CutAt, heard_cut, exact_cut, next_cut}

-- ---- what is true of each pass between two lines

pub record Settled (layout : Layout) (shape : Numbers) (s : SeenSide) : Type 0 where
  pub shape_is : shape_in s ≡ shape
  pub made : (own_part s).body ≡ body_by (plan_of layout shape) newcomer (own_part s).trail
  pub entries : length (own_part s).log ≡ decided (plan_of layout shape) (own_part s).trail
  pub shard : (own_part s).body.owned ≡ shard_owned s
  pub idle : (own_part s).body.hand ≡ Idle
  pub bell : KnowsBell (plan_of layout shape) s

settled_new : (layout : Layout) (heap : Heap) (p : ℕ) → Settled layout heap.shape (new_side (Some heap) p)
unfolding body_by
settled_new layout heap p = record {
  shape_is = refl;
  made = refl;
  entries = refl;
  shard = refl;
  idle = refl;
  bell = tt;
}

pub settled_so : (layout : Layout) (shape : Numbers) (s : SeenSide) → SideIsValid layout s → shape_in s ≡ shape
    → Settled layout shape s
settled_so layout shape (Pass v) h e = record {
  shape_is = e;
  made = subst (λ (n : Numbers). v.view.own.body ≡ body_by (plan_of layout n) newcomer v.view.own.trail) e
      h.1.part.made;
  entries = subst (λ (n : Numbers). length v.view.own.log ≡ decided (plan_of layout n) v.view.own.trail) e
      h.1.part.entries;
  shard = h.0.left;
  idle = h.0.idle;
  bell = tt;
}
settled_so layout shape (Shard o) h e = record {
  shape_is = e;
  made = subst (λ (n : Numbers). o.pages.owner.view.own.body
      ≡ body_by (plan_of layout n) newcomer o.pages.owner.view.own.trail) e h.stands.part.made;
  entries = subst (λ (n : Numbers). length o.pages.owner.view.own.log
      ≡ decided (plan_of layout n) o.pages.owner.view.own.trail) e h.stands.part.entries;
  shard = h.owned;
  idle = h.idle;
  bell = (
    ap (λ (b : SeenBell). b.cursor) h.bell,
    ap (λ (b : SeenBell). b.takes) h.bell,
    ap (λ (b : SeenBell). b.met) h.bell
        ∙ ap (λ (n : Numbers). bell_met (plan_of layout n) o.pages.shard o.pages.owner.view.own.trail) e,
  );
}

module _ (layout : Layout) (shape : Numbers) (tag : Option ℕ) (events : List Event) (orders : List Order)
    (each : Each (StepsBefore (plan_of layout shape) events) orders) where
  abbrev run_plan : Plan
  run_plan = plan_of layout shape

  abbrev run_terms : RunTerms
  run_terms = heap_terms layout shape

  -- how many steps each pass did
  abbrev counts : (ℕ → PassPart) → ℕ → ℕ
  counts parts q = steps_of (parts q).stands

  -- the steps of each pass are its first ones of the whole run, and the events are cut before its next one
  record Placed (parts : ℕ → PassPart) : Type 0 where
    goes : (p : ℕ) → p < run_plan.passes → GoesOn (own_part (parts p).stands).trail (trail_of run_plan events p)
    cuts : (p : ℕ) → p < run_plan.passes → CutBefore run_plan events (counts parts) run_plan.passes p

  -- ---- before the last lines

  heard_cuts : (parts : ℕ → PassPart) (p : ℕ) → HeardOfSteps orders parts p
      → CutBefore run_plan events (counts parts) run_plan.passes p
  heard_cuts parts p heard = heard_cut run_plan events orders each (counts parts) p heard run_plan.passes

  grown : (before next : CallsRun) (l : CallLine) (a : Answer) → LineAnswered run_terms tag before l a next → (q : ℕ)
      → counts before.parts q ≤ counts next.parts q
  grown before next l a line q =
      let f = line_follows run_terms tag before next l a line q in
      let long : counts next.parts q ≡ length ((own_part (before.parts q).stands).trail ++ f.trail.0) =
      ap (λ (t : List Footstep). length t) f.trail.1 in
      let both = length-append (own_part (before.parts q).stands).trail f.trail.0 in
      omega (arith, long, both)

  -- a cut before a step of a pass that the line leaves as it was
  cut_stays : (before next : CallsRun) (l : CallLine) (a : Answer) → LineAnswered run_terms tag before l a next
      → (p : ℕ) → p ≢ l.pass → CutBefore run_plan events (counts next.parts) run_plan.passes p
      → CutBefore run_plan events (counts before.parts) run_plan.passes p
  cut_stays before next l a line p ne c =
      let same : counts next.parts p ≡ counts before.parts p = ap (λ (v : PassPart). steps_of v.stands)
      (ap (λ (r : CallsRun). r.parts p) line.next_is ∙ part_there before.parts l.pass p line.part ne) in
      record {
        early = c.early;
        late = c.late;
        is = c.is;
        own = c.own ∙ same;
        others = λ q less. let few = grown before next l a line q in let all = c.others q less in
            omega (arith, few, all);
      }

  placed_before : (before : CallsRun) (ls : List CallLine) (bs : List Answer) (after : CallsRun)
      → LinesHeard orders run_terms tag before ls bs after → Placed after.parts → Placed before.parts
  placed_before before [] [] after h d = subst (λ (r : CallsRun). Placed r.parts) h d
  placed_before before [] (b ∷ bs) after h d = absurd h
  placed_before before (l ∷ ls) [] after h d = absurd h
  placed_before before (l ∷ ls) (b ∷ bs) after h d =
      let rest : Placed h.0.parts = placed_before h.0 ls bs after h.4 d in
      record {
        goes = λ p lt. goes_then (own_part (before.parts p).stands).trail (own_part (h.0.parts p).stands).trail
            (trail_of run_plan events p) (line_follows run_terms tag before h.0 l b h.1 p).trail (rest.goes p lt);
        cuts = λ p lt. dite (ℕ_discrete p l.pass)
            (λ (e : p ≡ l.pass). heard_cuts before.parts p
            (subst (λ (z : ℕ). HeardOfSteps orders before.parts z) (sym e) h.3))
            (λ (ne : p ≢ l.pass). cut_stays before h.0 l b h.1 p ne (rest.cuts p lt));
      }

  -- ---- line after line

  -- a part whose entries are those of its own part
  abbrev SettledPart : PassPart → Type 0
  SettledPart v = Settled layout shape v.stands × (v.log ≡ (own_part v.stands).log)

  abbrev AllSettled : (ℕ → PassPart) → Type 0
  AllSettled parts = (p : ℕ) → p < run_plan.passes → SettledPart (parts p)

  abbrev IsCut : List Event → (ℕ → PassPart) → Type 0
  IsCut early parts = (p : ℕ) → p < run_plan.passes → length (trail_of run_plan early p) ≡ counts parts p

  have_parts : (early late : List Event) (parts : ℕ → PassPart) → events ≡ early ++ late → IsCut early parts
      → AllSettled parts → Placed parts → HaveParts run_plan early parts
  have_parts early late parts is cut settled placed p lt =
      let s = (settled p lt).0 in
      let on = placed.goes p lt in
      let more = trail_goes_on run_plan early late p in
      let whole : trail_of run_plan events p ≡ trail_of run_plan early p ++ more.0 =
      ap (λ (es : List Event). trail_of run_plan es p) is ∙ more.1 in
      let trail : trail_of run_plan early p ≡ (own_part (parts p).stands).trail =
      same_front (trail_of run_plan early p) more.0 (own_part (parts p).stands).trail on.0 (sym whole ∙ on.1)
      (cut p lt) in
      record {
        body = steps_make_parts run_plan early p lt
            ∙ ap (λ (b : Body). Some b) (ap (body_by run_plan newcomer) trail ∙ sym s.made);
        trail = trail;
        entries = steps_make_entries run_plan early p ∙ (ap (decided run_plan) trail
            ∙ sym (ap (λ (l : List LogEntry). length l) (settled p lt).1 ∙ s.entries));
        shard = s.shard;
        idle = s.idle;
        shards = ap (λ (n : Numbers). n.shards) s.shape_is;
        pages = ap pages_of s.shape_is;
        bell = s.bell;
      }

  settled_next : (before next : CallsRun) (l : CallLine) (a : Answer) → LineAnswered run_terms tag before l a next
      → PartIsTrue layout (next.parts l.pass) → AllSettled before.parts → AllSettled next.parts
  settled_next before next l a line stands settled p lt = dite (ℕ_discrete p l.pass)
      (λ (e : p ≡ l.pass).
      let shape_is : shape_in (next.parts p).stands ≡ shape =
      (line_follows run_terms tag before next l a line p).shape ∙ (settled p lt).0.shape_is in
      let true_there : PartIsTrue layout (next.parts p) =
      subst (λ (z : ℕ). PartIsTrue layout (next.parts z)) (sym e) stands in
      (settled_so layout shape (next.parts p).stands true_there.0 shape_is, true_there.1))
      (λ (ne : p ≢ l.pass). subst SettledPart
      (sym (ap (λ (r : CallsRun). r.parts p) line.next_is ∙ part_there before.parts l.pass p line.part ne))
      (settled p lt))

  by_lines : (before : CallsRun) (ls : List CallLine) (bs : List Answer) (after : CallsRun)
      → LinesHeard orders run_terms tag before ls bs after → Placed after.parts → (early late : List Event)
      → events ≡ early ++ late → IsCut early before.parts → AllSettled before.parts
      → RunsByLine run_plan early late run_terms tag before ls bs after
  by_lines before [] [] after h d early late is cut settled =
      (have_parts early late before.parts is cut settled (placed_before before [] [] after h d), h)
  by_lines before [] (b ∷ bs) after h d early late is cut settled = absurd h
  by_lines before (l ∷ ls) [] after h d early late is cut settled = absurd h
  by_lines before (l ∷ ls) (b ∷ bs) after h d early late is cut settled =
      let here = placed_before before (l ∷ ls) (b ∷ bs) after h d in
      let there = placed_before h.0 ls bs after h.4 d in
      let c = next_cut run_plan events early late (counts h.0.parts) (counts before.parts) run_plan.passes is cut
      (λ q less. grown before h.0 l b h.1 q)
      (exact_cut run_plan events (counts h.0.parts) run_plan.passes there.cuts) in
      let whole : events ≡ (early ++ c.own) ++ c.rest = is ∙ (ap (λ (es : List Event). early ++ es) c.is
      ∙ sym (append_assoc early c.own c.rest)) in (
        have_parts early late before.parts is cut settled here,
        h.0,
        h.1,
        c.own,
        c.rest,
        c.is,
        by_lines h.0 ls bs after h.4 d (early ++ c.own) c.rest whole c.same
            (settled_next before h.0 l b h.1 h.2 settled),
      )

-- the whole run
pub runs_by_line : (layout : Layout) (heap : Heap) (tag : Option ℕ) (lines : List CallLine) (answers : List Answer)
    (after : CallsRun) (events : List Event) (orders : List Order)
    → Each (StepsBefore (plan_of layout heap.shape) events) orders
    → StepsInTurn orders (Some heap) (heap_terms layout heap.shape) tag lines answers after
    → ((p : ℕ) → p < heap.shape.passes → EndsInRun (plan_of layout heap.shape) events p (after.parts p))
    → RunsByLine (plan_of layout heap.shape) [] events (heap_terms layout heap.shape) tag (opening_calls (Some heap))
    lines answers after
runs_by_line layout heap tag lines answers after events orders each turn ends =
    by_lines layout heap.shape tag events orders each (opening_calls (Some heap)) lines answers after turn.0 (record {
      goes = λ p lt.
          let e = ends p lt in
          subst (GoesOn (own_part (after.parts p).stands).trail) e.4.trail
          (goes_to_end (after.parts p) e.0 e.2 e.1 e.3);
      cuts = λ p lt. heard_cuts layout heap.shape tag events orders each after.parts p (turn.1 p lt);
    }) [] events refl (λ p lt. none_done (plan_of layout heap.shape) p) (λ p lt. (settled_new layout heap p, refl))
