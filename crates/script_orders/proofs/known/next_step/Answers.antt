use Rattle.std.proofs.Common.{◌≡◌, true, List, refl, sym, ap, subst, ◌∙◌, arith}
use Rattle.sh_shape.specs.Places.{words_of}
use Rattle.sh_shape.specs.Shape.{Numbers}
use Rattle.sh_step.specs.declared.body.Body.{Body}
use Rattle.sh_step.specs.Plans.{plan_of}
use Rattle.sh_core.specs.declared.outcome.Outcome.{Outcome}
use Rattle.sh_core.specs.Outcomes.{outcome_of}
use Rattle.script_orders.specs.Lanes.{Did, did, and_then}
use Rattle.script_orders.specs.Orders.{reply_line}
use Rattle.script_orders.specs.Reached.{plan_in, world_by, is_due, IsNext}
use Rattle.script_orders.specs.Seen.{Touches}
use Rattle.script_orders.proofs.Again.{no_value}
use Rattle.script_orders.proofs.Going.{runs_by}
use Rattle.script_orders.proofs.Skipped.{due_row}
use Rattle.script_orders.proofs.Walked.{rests_past, rests_idle, found_at, due_within}
use Rattle.script_orders.proofs.known.next_step.Goals as goal

pub returns-in_default-clause-next : goal.returns-in_default-clause-next
returns-in_default-clause-next g c =
    rests_past g.L.KeyLayout.layout c.args.program.now c.args.state.now c.args.pass c.in_default.ensures

pub returns-in_default-next_line-clause-next : goal.returns-in_default-next_line-clause-next
returns-in_default-next_line-clause-next g c =
    let layout = g.L.KeyLayout.layout in
    let p = c.args.program.now in
    let s = c.args.state.now in
    let heap = c.play.new.self in
    let runs = runs_by layout p heap.opening.items heap.order.items s.order.items heap.world
    c.in_ok-play.ensures.played (c.in_ok-play.ensures.order ∙ c.as_slice.ensures.value) in
    rests_idle layout p s c.args.pass (did c.in-Some.lane.now) heap.world c.in-Some.ensures runs
    c.in_default-next_line.ensures

pub returns-in_default-get-clause-next : goal.returns-in_default-get-clause-next
returns-in_default-get-clause-next g c =
    let world = c.play.new.self.world in
    due_within (plan_of g.L.KeyLayout.layout world.shape) world.parts c.args.program.now.lines.now c.args.pass
    c.in-Some-next_line.line c.in-Some-next_line.ensures.due c.in_default-get.ensures.lookup.3

pub returns-in_default-touch_of-clause-next : goal.returns-in_default-touch_of-clause-next
returns-in_default-touch_of-clause-next g c =
    let layout = g.L.KeyLayout.layout in
    let p = c.args.program.now in
    let s = c.args.state.now in
    let heap = c.play.new.self in
    let k = heap.world in
    let runs = runs_by layout p heap.opening.items heap.order.items s.order.items k c.in_ok-play.ensures.played
    (c.in_ok-play.ensures.order ∙ c.as_slice.ensures.value) in
    let w = world_by layout p s.order.items in
    let line = c.in-Some-next_line.line in
    let event = c.in-Some-get.event.now in
    let there = c.in-Some-get.ensures.lookup in
    let due = subst (λ (parts : List Body). is_due (plan_of layout k.shape) parts p.lines.now c.args.pass line ≡ true)
    (runs.2).parts c.in-Some-next_line.ensures.due in
    due_row (plan_of layout k.shape) w p.lines.now c.args.pass line event
    (found_at p.lines.now p.lines.now line event refl there.3.0 there.1) due
    (c.in_default-touch_of.ensures.is w (runs.2))

pub outcome-requires-clause-there : goal.outcome-requires-clause-there
outcome-requires-clause-there g c =
    let lines = c.args.program.now.lines.now in
    let there = c.in-Some-get.ensures.lookup in
    found_at lines lines c.in-Some-next_line.line c.in-Some-get.event.now refl there.3.0 there.1

pub returns-clause-next : goal.returns-clause-next
returns-clause-next g c =
    let layout = g.L.KeyLayout.layout in
    let p = c.args.program.now in
    let s = c.args.state.now in
    let pass = c.args.pass in
    let k = c.play.new.self.world in
    let runs = runs_by layout p c.play.new.self.opening.items c.play.new.self.order.items s.order.items k
    c.in_ok-play.ensures.played (c.in_ok-play.ensures.order ∙ c.as_slice.ensures.value) in
    let plan = plan_in layout p in
    let w = world_by layout p s.order.items in
    let d : Did = did c.in-Some.lane.now in
    let line = c.in-Some-next_line.line in
    let event = c.in-Some-get.event.now in
    let there = c.in-Some-get.ensures.lookup in
    let touch = c.in-Some-touch_of.touch in
    let touched = c.in-Some-touch_of.ensures in
    let o : Outcome = c.in_ok-outcome.outcome in
    let came : o ≡ outcome_of plan w event =
    c.in_ok-outcome.ensures.is w runs.2 ∙ ap (λ (m : Numbers). outcome_of (plan_of layout m) w event) runs.1 in
    let touches : Touches p.shape plan w event touch.number touch.found touch.seen touch.left =
    subst (λ (m : Numbers). Touches m (plan_of layout m) w event touch.number touch.found touch.seen touch.left) runs.1
    (touched.touches w runs.2) in (
      d,
      c.in-Some.ensures,
      record {
        line = line;
        event = event;
        seen = touch.seen;
        is_next = subst (λ (bs : List Body). IsNext plan bs p.lines.now pass d.behind line) (runs.2).parts
            (subst (λ (m : Numbers). IsNext (plan_of layout m) k.parts p.lines.now pass d.behind line) runs.1
            c.in-Some-next_line.ensures);
        there = found_at p.lines.now p.lines.now line event refl there.3.0 there.1;
        touches = touches;
        inside =
            let less = touched.within in
            let count = (runs.2).words.count in
            let same : words_of k.shape ≡ words_of p.shape = ap words_of runs.1 in
            omega arith;
        then_did =
            ap did c.in_ok-shared.ensures.ok
            ∙ c.in_ok-after.ensures
            ∙ ap (λ (x : Outcome). and_then d line touch.seen (reply_line event x)) came;
        alike = λ none v.
            no_value p.shape plan w event touch.number touch.found touch.seen touch.left touches o came
            (sym c.shows_value-has_value.ensures ∙ none) v;
      },
    )
