use Rattle.std.proofs.Common.{ap, sym, subst, Option}
use Rattle.sh_step.specs.declared.action.Event.{Event}
use Rattle.script_models.specs.StepsKeys.{DoesEvent}
use Rattle.script_show.specs.declared.touched.Touched.{Touched}
use Rattle.script_show.specs.Sessions.{is_skipped, TellsWhy}
use Rattle.script_show.proofs.Skips.{tells_why}
use Rattle.script_show.proofs.session.do_event.Goals.{in-Some, in-None}
use Rattle.script_show.proofs.session.do_event.Goals as goal

pub returns-clause-why : goal.returns-clause-why
returns-clause-why g c =
    let layout = g.L.KeyLayout.layout in
    let came = c.in_ok-outcome.outcome in
    let k = c.args.world.now in
    let k' = c.do_event.new.world in
    let P : Touched → Type 0 = λ t. TellsWhy t came in
    let does = c.in_ok-outcome.ensures.does in
    let Q : Option Event → Type 0 = λ o. DoesEvent layout k o came k' in
    elim c.match-event.branch [
      | in-Some w ↦ subst P (sym w.touched-is) (tells_why layout k k' w.in-Some.event w.touched_in-touched.result came
          c.shape-shape.ensures.reached w.touched_in-touched.ensures (subst Q w.in-Some.is does))
      | in-None w ↦ subst P (sym w.touched-is) (ap is_skipped (sym (subst Q w.in-None.is does).0))
    ]
