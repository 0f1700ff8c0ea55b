use Rattle.std.proofs.Common.{◌≡◌, vec_len, length}
use Rattle.tool_bench.proofs.lots.filled_lots.Given as goal

-- there is a lot for each pass so far
abbrev pub invariant-loop-pass : goal.invariant-loop-pass
invariant-loop-pass g l = vec_len l.lots ≡ length l.yielded
