use Rattle.std.proofs.Common.{◌≡◌, ◌++◌, min, reverse, vec_len}
use Rattle.tool_bench.proofs.parting.taken.Given as goal

-- `_n` passes were taken, or all if there were fewer, and they are the last ones
abbrev pub invariant-loop-n : goal.invariant-loop-n
invariant-loop-n g l = record {
  count : vec_len l.part ≡ min l._n (vec_len l.fn.passes);
  last : l.fn.passes.items ≡ l.passes.items ++ reverse l.part.items;
}
