use Rattle.std.proofs.Common.{◌≡◌, ◌∙◌, sym, ap, subst, List, take}
use Rattle.std.proofs.lemmas.List.{take_all}
use Rattle.sh_history.specs.History.{Legal}
use Rattle.sh_step.specs.declared.action.Event.{Event}
use Rattle.sh_step.specs.Plans.{plan_of}
use Rattle.sh_shape.specs.Shape.{IsShape}
use Rattle.sh_core.specs.Worlds.{World, run, open_world}
use Rattle.sh_core.specs.Kept.{Represents}
use Rattle.sh_core.proofs.Words.Steps.{run_none}
use Rattle.sh_core.proofs.Words.Doing.{goes_on}
use Rattle.sh_core.proofs.Clauses.RunTheorem.{theorem, legal_of}
use Rattle.sh_core.proofs.world.run.Goals as goal

pub loop-event-init : goal.loop-event-init
loop-event-init g c =
    let opened = c.in_ok-world.ensures.opens in
    let plan = plan_of g.L.KeyLayout.layout c.args.shape in
    record {
      is_shape = subst IsShape opened.1 c.in_ok-world.ensures.reached.is_shape;
      fits = opened.0;
      shape = opened.1;
      stands = subst (λ (w : World). Represents c.in_ok-world.world w) (sym (run_none plan (open_world plan))) opened.2;
    }

pub loop-event-preserved : goal.loop-event-preserved
loop-event-preserved g c =
    let plan = plan_of g.L.KeyLayout.layout c.args.shape in
    let v = c.loop-event.invariant in
    let es = c.args.events.now in
    let i = c.loop-event.event-index in
    let steps = c.in_ok-step.ensures.ok in
    record {
      is_shape = v.is_shape;
      fits = v.fits;
      shape = steps.shape ∙ v.shape;
      stands = goes_on (plan_of g.L.KeyLayout.layout) c.loop-event.world c.step.new.self es i c.event-item.result
          v.shape c.loop-event-test.true c.event-item.is steps.world v.stands;
    }

pub returns-clause-refines : goal.returns-clause-refines
returns-clause-refines g c = theorem g.L.KeyLayout.layout c.args.shape g.L.KeyLayout.numbers.lawful
    c.loop-event.invariant.is_shape c.loop-event.invariant.fits c.args.events.now

pub returns-clause-legal : goal.returns-clause-legal
returns-clause-legal g c =
    let shape = c.args.shape in
    let v = c.loop-event.invariant in
    let past = c.loop-event-test.false in
    let all : take c.loop-event.event-index c.args.events.now ≡ c.args.events.now = take_all c.loop-event.event-index
    c.args.events.now past in
    let log = v.stands.log ∙ ap (λ (es : List Event). (run (plan_of g.L.KeyLayout.layout shape) es).log) all in
    subst (Legal shape.passes g.L.KeyLayout.layout.guard_max) (sym log)
    (legal_of g.L.KeyLayout.layout shape g.L.KeyLayout.numbers.lawful v.is_shape v.fits c.args.events.now)
