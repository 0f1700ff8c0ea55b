use Rattle.std.proofs.Common.{◌≡◌, ℕ, ◌<◌, [], vec_len, get_or}
use Rattle.tool_load.specs.Samples.{IsSample}
use Rattle.tool_load.proofs.samples.sixteen.Given as goal

abbrev pub invariant-loop-place : goal.invariant-loop-place
invariant-loop-place l = record {
  count : vec_len l.values ≡ l.place;
  are : (k : ℕ) → k < l.place → IsSample l.lengths k (get_or l.values.items k []);
}
