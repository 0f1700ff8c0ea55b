use Rattle.std.proofs.Common.{◌≡◌, ℕ, ◌+◌, ◌<◌, ◌≤◌, slice_index}
use Rattle.tool_judge.specs.Counts.{saturated}
use Rattle.tool_judge.proofs.counts.Counts.take_in.Given as goal

abbrev pub invariant-loop-place : goal.invariant-loop-place
invariant-loop-place l = record {
  added : (k : ℕ) → k < l.place → slice_index l.self.numbers k
      ≡ saturated (slice_index l.fn.self.numbers k + slice_index l.other.numbers k);
  left : (k : ℕ) → l.place ≤ k → slice_index l.self.numbers k ≡ slice_index l.fn.self.numbers k;
}
