use Rattle.std.proofs.Common.{◌≡◌, ◌≤◌, vec_len}
use Rattle.tool_large.proofs.filling.fill_shards.Given as goal

abbrev pub invariant-loop-number : goal.invariant-loop-number
invariant-loop-number g l = record {
  heap : l.pass.heap ≡ l.initial.pass.heap;
  few : vec_len l.keys ≤ l.part.values;
}
