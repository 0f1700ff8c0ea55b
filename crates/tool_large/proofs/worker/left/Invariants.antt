use Rattle.std.proofs.Common.{◌≡◌}
use Rattle.tool_large.proofs.worker.left.Given as goal

abbrev pub invariant-loop : goal.invariant-loop
invariant-loop g l = l.owner.pages.owner.heap ≡ l.initial.owner.pages.owner.heap
