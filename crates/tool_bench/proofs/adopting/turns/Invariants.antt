use Rattle.std.proofs.Common.{◌≡◌}
use Rattle.tool_bench.proofs.adopting.turns.Given as goal

abbrev pub invariant-loop-turn : goal.invariant-loop-turn
invariant-loop-turn g l = l.outcome.operations ≡ l._turn
