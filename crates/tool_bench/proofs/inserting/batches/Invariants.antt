use Rattle.std.proofs.Common.{◌≡◌, ◌*◌}
use Rattle.tool_bench.proofs.inserting.batches.Given as goal

abbrev pub invariant-loop-batch : goal.invariant-loop-batch
invariant-loop-batch g l = l.outcome.operations ≡ 1000 * l._batch
