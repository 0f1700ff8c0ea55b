use Rattle.std.proofs.Common.{◌≡◌}
use Rattle.script_workers.proofs.worker.Worker.run.Given as goal

abbrev pub invariant-loop : goal.invariant-loop
invariant-loop g l = l.self ≡ l.initial.self
