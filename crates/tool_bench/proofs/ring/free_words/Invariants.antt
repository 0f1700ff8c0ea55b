use Rattle.std.proofs.Common.{◌≡◌, vec_len}
use Rattle.tool_bench.proofs.ring.free_words.Given as goal

abbrev pub invariant-loop-place : goal.invariant-loop-place
invariant-loop-place l = vec_len l.words ≡ l._place
