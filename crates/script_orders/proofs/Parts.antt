-- What a step leaves of the parts, and which states have the same parts.
use Rattle.std.proofs.Common.{◌≡◌, ◌≢◌, ℕ, List, [], ◌∷◌, length, get_or, refl, sym, ap, ◌∙◌, subst, arith, Option}
use Rattle.std.proofs.Common.{Some, None, slice_get}
use Rattle.std.specs.Prelude.{option_map}
use Rattle.std.proofs.lemmas.List.{length-set, length-replicate, ext_get_or}
use Rattle.std.proofs.lemmas.Option.{slice_get-get_or, get_or_from_slice_get}
use Rattle.sh_key.specs.Layout.{Layout}
use Rattle.sh_history.specs.declared.entry.Entry.{Entry}
use Rattle.sh_shape.specs.Shape.{Numbers}
use Rattle.sh_shape.specs.Places.{IsPlace}
use Rattle.sh_step.specs.declared.action.Event.{Event}
use Rattle.sh_step.specs.declared.body.Body.{Body}
use Rattle.sh_step.specs.Moves.{row, row_of, move_of}
use Rattle.sh_step.specs.Parts.{newcomer}
use Rattle.sh_step.specs.Plans.{Plan, plan_of}
use Rattle.sh_step.specs.Rows.{Row}
use Rattle.sh_core.specs.declared.outcome.Outcome.{Outcome}
use Rattle.sh_core.specs.Kept.{KeptWorld, Represents, StepsWorld}
use Rattle.sh_core.specs.Outcomes.{row_of_event, outcome_of}
use Rattle.sh_core.specs.Words.{Words, read}
use Rattle.sh_core.specs.Worlds.{World, step, apply, run, run_from, open_world}
use Rattle.sh_core.proofs.Words.Steps.{step_moves}
use Rattle.script_orders.specs.declared.found.Program.{Program}
use Rattle.script_orders.specs.declared.state.State.{State}
use Rattle.script_orders.specs.Changes.{HasChanges}
use Rattle.script_orders.specs.Lanes.{Did, nothing}
use Rattle.script_orders.specs.Reached.{plan_in, done_by, world_before, world_by, lanes_of, IsReached, IsWorldOf}
use Rattle.script_orders.specs.Seen.{Sees, DoesStep}
use Rattle.script_orders.proofs.ListSteps.{get_set_same, get_set_other}
use Rattle.script_orders.proofs.Skipped.{step_option, step_is}
use Rattle.script_orders.proofs.Stories.{story_decides}

-- ---- the part of each pass after a step

pub step_other : (plan : Plan) (w : World) (e : Event) (a : ℕ) → a ≢ e.pass → slice_get (step plan w e).parts a
    ≡ slice_get w.parts a
unfolding apply
step_other plan w e a ne =
    ap (λ (v : World). slice_get v.parts a) (step_is plan w e) ∙ go (row_of_event plan w e) where
      go : (o : Option Row) → slice_get (step_option plan w e o).parts a ≡ slice_get w.parts a
      go (Some m) = get_set_other w.parts e.pass a (m.part (read w.words m.place)) ne
      go None = refl

-- the part that the event's step leaves to its pass
abbrev pub left_by : (plan : Plan) (w : World) (e : Event) (seen : ℕ) → Sees plan w e seen → Body
left_by plan w e seen sees =
    (row_of plan sees.part sees.the_move).part (read w.words (row_of plan sees.part sees.the_move).place)

pub step_own : (plan : Plan) (w : World) (e : Event) (seen : ℕ) (sees : Sees plan w e seen)
    → slice_get (step plan w e).parts e.pass ≡ Some (left_by plan w e seen sees)
unfolding row apply
step_own plan w e seen sees =
    let m : Row = row_of plan sees.part sees.the_move in
    let is : row plan sees.part e.action ≡ Some m = ap (option_map (row_of plan sees.part)) sees.is in
    ap (λ (v : World). slice_get v.parts e.pass) (step_moves plan w e sees.part m sees.at is)
    ∙ get_set_same w.parts e.pass sees.part (left_by plan w e seen sees) sees.at

-- the step is one of a story
pub does_step : (plan : Plan) (w : World) (lines : List Event) (n : ℕ) (e : Event) (seen : ℕ) (now : Body)
    (sees : Sees plan w e seen) → slice_get lines n ≡ Some e → slice_get w.parts e.pass ≡ Some now
    → DoesStep plan lines (record { line = n; seen = seen }) now (left_by plan w e seen sees)
does_step plan w lines n e seen now sees there at =
    let same : sees.part ≡ now = let z : Some sees.part ≡ Some now = sym sees.at ∙ at in cc in
    let place = (row_of plan sees.part sees.the_move).place in record {
      event = e;
      the_move = sees.the_move;
      found = read w.words place;
      there = there;
      is = subst (λ (p : Body). move_of plan p e.action ≡ Some sees.the_move) same sees.is;
      seen_is = sees.seen_is;
      leaves = ap (λ (p : Body). (row_of plan p sees.the_move).part (read w.words place)) same;
    }

-- ---- how many parts there are

step_count : (plan : Plan) (w : World) (e : Event) → length (step plan w e).parts ≡ length w.parts
unfolding apply
step_count plan w e = ap (λ (v : World). length v.parts) (step_is plan w e) ∙ go (row_of_event plan w e) where
  go : (o : Option Row) → length (step_option plan w e o).parts ≡ length w.parts
  go (Some m) = length-set w.parts e.pass (m.part (read w.words m.place))
  go None = refl

run_count : (plan : Plan) (w : World) (es : List Event) → length (run_from plan w es).parts ≡ length w.parts
unfolding run_from
run_count plan w [] = refl
run_count plan w (e ∷ es) = run_count plan (step plan w e) es ∙ step_count plan w e

pub parts_count : (layout : Layout) (p : Program) (es : List Event) → length (run (plan_in layout p) es).parts
    ≡ p.shape.passes
parts_count layout p es =
    run_count (plan_in layout p) (open_world (plan_in layout p)) es ∙ length-replicate p.shape.passes newcomer

-- ---- states with the same lanes have the same parts

pub parts_same : (layout : Layout) (p : Program) (s t : State) → IsReached layout p s → IsReached layout p t
    → lanes_of s ≡ lanes_of t → (world_by layout p s.order.items).parts ≡ (world_by layout p t.order.items).parts
parts_same layout p s t reached also same =
    let begin : List Body = (run (plan_in layout p) p.before.now).parts in
    let count = parts_count layout p (done_by p s.order.items) in
    let many = parts_count layout p (done_by p t.order.items) in
    let some = parts_count layout p p.before.now in
    let lanes = reached.count in
    let ours : List Body = (world_by layout p s.order.items).parts in
    let theirs : List Body = (world_by layout p t.order.items).parts in
    ext_get_or newcomer ours theirs (count ∙ sym many) (λ a less.
    let d : Did = get_or (lanes_of s) a nothing in
    let at : slice_get (lanes_of s) a ≡ Some d = slice_get-get_or (lanes_of s) a nothing (omega arith) in
    let begins : slice_get begin a ≡ Some (get_or begin a newcomer) =
    slice_get-get_or begin a newcomer (omega arith) in
    let one = (reached.each a d at).part (get_or begin a newcomer) begins in
    let two = (also.each a d (sym (ap (λ (ls : List Did). slice_get ls a) same) ∙ at)).part (get_or begin a newcomer)
    begins in
    get_or_from_slice_get ours a one.0 newcomer one.1
    ∙ story_decides (plan_in layout p) p.lines.now d.story (get_or begin a newcomer) one.0 two.0 one.2 two.2
    ∙ sym (get_or_from_slice_get theirs a two.0 newcomer two.1))

-- ---- the log does not matter to a step

abbrev relogged : World → List Entry → World
relogged w log = record w { log = log }

words_relogged : (plan : Plan) (w : World) (e : Event) (log : List Entry) → (step plan (relogged w log) e).words
    ≡ (step plan w e).words
unfolding apply row_of_event
words_relogged plan w e log =
    ap (λ (v : World). v.words) (step_is plan (relogged w log) e)
    ∙ go (row_of_event plan w e)
    ∙ sym (ap (λ (v : World). v.words) (step_is plan w e)) where
      go : (o : Option Row) → (step_option plan (relogged w log) e o).words ≡ (step_option plan w e o).words
      go (Some m) = refl
      go None = refl

parts_relogged : (plan : Plan) (w : World) (e : Event) (log : List Entry) → (step plan (relogged w log) e).parts
    ≡ (step plan w e).parts
unfolding apply row_of_event
parts_relogged plan w e log =
    ap (λ (v : World). v.parts) (step_is plan (relogged w log) e)
    ∙ go (row_of_event plan w e)
    ∙ sym (ap (λ (v : World). v.parts) (step_is plan w e)) where
      go : (o : Option Row) → (step_option plan (relogged w log) e o).parts ≡ (step_option plan w e o).parts
      go (Some m) = refl
      go None = refl

outcome_relogged : (plan : Plan) (w : World) (e : Event) (log : List Entry) → outcome_of plan (relogged w log) e
    ≡ outcome_of plan w e
unfolding outcome_of row_of_event
outcome_relogged plan w e log = refl

-- ---- each world of a state goes on alike

module _ (layout : Layout) (p : Program) (s t : State) (k k' : KeptWorld) (e : Event) (o : Outcome)
    (same : k.shape ≡ p.shape) (stands : Represents k (world_by layout p s.order.items))
    (steps : StepsWorld layout k e o k')
    (changed : HasChanges p.shape s.changes.items (world_before layout p).words
    (world_by layout p s.order.items).words) where
  abbrev state_plan : Plan
  state_plan = plan_in layout p

  abbrev its_world : World
  its_world = world_by layout p s.order.items

  also_stands : (v : World) → IsWorldOf layout p s v → Represents k (relogged v k.log)
  also_stands v is = record {
    words = record {
      count = stands.words.count;
      at = λ pl within.
          let there : IsPlace p.shape pl = subst (λ (n : Numbers). IsPlace n pl) same within in
          stands.words.at pl within ∙ sym (changed.at pl there) ∙ is.changed.at pl there;
    };
    parts = stands.parts ∙ sym is.parts;
    log = refl;
  }

  pub outcome_alike : (v : World) → IsWorldOf layout p s v
      → outcome_of state_plan v e ≡ outcome_of state_plan its_world e
  outcome_alike v is =
      let P : World → Numbers → Outcome = λ u n. outcome_of (plan_of layout n) u e in
      sym (outcome_relogged state_plan v e k.log)
      ∙ ap (P (relogged v k.log)) (sym same)
      ∙ sym (steps.outcome_is (relogged v k.log) (also_stands v is))
      ∙ steps.outcome_is its_world stands
      ∙ ap (P its_world) same

  pub world_alike : (v : World) → IsWorldOf layout p s v
      → HasChanges p.shape t.changes.items (world_before layout p).words (step state_plan its_world e).words
      → world_by layout p t.order.items ≡ step state_plan its_world e → IsWorldOf layout p t (step state_plan v e)
  world_alike v is changes led =
      let P : World → Numbers → Type 0 = λ u n. Represents k' (step (plan_of layout n) u e) in
      let mine = subst (P (relogged v k.log)) same (steps.world (relogged v k.log) (also_stands v is)) in
      let theirs = subst (P its_world) same (steps.world its_world stands) in
      record {
        changed = record {
          at = λ pl within.
              let there : IsPlace k'.shape pl =
              subst (λ (n : Numbers). IsPlace n pl) (sym (steps.shape ∙ same)) within in
              changes.at pl within
              ∙ sym (theirs.words.at pl there)
              ∙ mine.words.at pl there
              ∙ ap (λ (ws : Words). read ws pl) (words_relogged state_plan v e k.log);
          ascend = changes.ascend;
          each = changes.each;
        };
        parts =
            sym (parts_relogged state_plan v e k.log) ∙ sym mine.parts ∙ theirs.parts
            ∙ sym (ap (λ (u : World). u.parts) led);
      }
