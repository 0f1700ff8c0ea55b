use Rattle.std.proofs.Common.{Option, subst, ap, ◌∙◌, ◌++◌}
use Rattle.sh_step.specs.declared.action.Event.{Event}
use Rattle.script_models.specs.StepsKeys.{DoesEvent}
use Rattle.script_models.specs.StepsOutput.{event_line}
use Rattle.script_models.proofs.RunLemmas.{from_ok}
use Rattle.script_models.proofs.StepLemmas.{ran_none, ran_more}
use Rattle.script_models.proofs.steps_output.steps_lines.Goals as goal

pub loop-line-init : goal.loop-line-init
loop-line-init g c =
    let opens = c.in_ok-world.ensures.opens in
    ran_none g.L.KeyLayout.layout c.args.shape c.args.tag c.in_ok-world.world c.new-output.result.items opens.1 opens.2
    c.new-output.ensures.items

pub loop-line-preserved : goal.loop-line-preserved
loop-line-preserved g c =
    let layout = g.L.KeyLayout.layout in
    let line = c.in-Some.line in
    let outcome = c.in_ok-outcome.outcome in
    let does = subst (λ (s : Option Event). DoesEvent layout c.loop-line.world s outcome c.do_event.new.world)
    c.event_shown.ensures c.in_ok-outcome.ensures.does in
    let pushed = from_ok c.push_event.result c.if-is_err.ensures.value c.push_event.ensures in
    ran_more layout c.args.shape c.args.tag c.loop-line.yielded line c.loop-line.world c.do_event.new.world outcome
    c.loop-line.output.items c.push_event.new.out.items
    c.loop-line.invariant does (pushed ∙ ap (λ k. c.loop-line.output.items ++ event_line c.args.tag line.pass k outcome)
    c.kind-kind.ensures)
