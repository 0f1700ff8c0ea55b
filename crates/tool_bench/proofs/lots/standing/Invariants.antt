use Rattle.std.proofs.Common.{◌≤◌}
use Rattle.tool_bench.proofs.lots.standing.Given as goal

abbrev pub invariant-loop-place : goal.invariant-loop-place
invariant-loop-place g l = l.found ≤ l.place
