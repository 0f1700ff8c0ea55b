use Rattle.std.proofs.Common.{◌≡◌, ℕ, ◌<◌, length, slice_index}
use Rattle.tool_judge.specs.Pattern.{pattern_word}
use Rattle.tool_judge.proofs.pattern.value.Given as goal

abbrev pub invariant-loop-place : goal.invariant-loop-place
invariant-loop-place l = record {
  len : length l.words ≡ 16;
  words : (k : ℕ) → k < l.place → slice_index l.words k ≡ pattern_word l.serial k;
}
