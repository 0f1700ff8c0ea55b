use Rattle.script_models.proofs.StepLemmas.{EventsRan}
use Rattle.script_models.proofs.steps_output.steps_lines.Given as goal

abbrev pub invariant-loop-line : goal.invariant-loop-line
invariant-loop-line g l = EventsRan g.L.KeyLayout.layout l.fn.shape l.fn.tag l.yielded l.world l.output.items
