use Rattle.std.proofs.Common.{◌≡◌, ℕ, ◌<◌, slice_index}
use Rattle.tool_judge.specs.Pattern.{pattern_word}
use Rattle.tool_judge.proofs.pattern.is_whole.Given as goal

abbrev pub invariant-loop-place : goal.invariant-loop-place
invariant-loop-place l = (k : ℕ) → k < l.place → slice_index l.words k ≡ pattern_word l.serial k
