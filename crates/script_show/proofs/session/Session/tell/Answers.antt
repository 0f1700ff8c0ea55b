use Rattle.std.proofs.Common.{refl, subst, inr, Option}
use Rattle.sh_step.specs.declared.action.Event.{Event}
use Rattle.sh_step.specs.Kinds.{kind_of_action}
use Rattle.script_models.specs.StepsKeys.{DoesEvent}
use Rattle.script_models.specs.StepsOutput.{event_line}
use Rattle.script_show.proofs.session.Session.tell.Goals as goal

pub returns-in_default-clause-either : goal.returns-in_default-clause-either
returns-in_default-clause-either g c =
    let e = c.args.event in
    let came = c.in_ok-touched.outcome in
    let Q : Option Event → Type 0 = λ o. DoesEvent g.L.KeyLayout.layout c.args.self.now.world o came
    c.do_event.new.world in
    let does = subst Q c.event_shown.ensures c.in_ok-touched.ensures.does in
    inr (event_line c.args.self.now.tag e.pass (kind_of_action e.action) came, (came, does, refl))
