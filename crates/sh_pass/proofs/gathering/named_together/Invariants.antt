use Rattle.std.proofs.Common.{◌≡◌, ℕ, cond, take}
use Rattle.std.specs.Int.{bit_at}
use Rattle.sh_pass.specs.Passes.{named_by}
use Rattle.sh_pass.proofs.gathering.named_together.Given as goal

abbrev pub invariant-loop-pass : goal.invariant-loop-pass
invariant-loop-pass g l = (a : ℕ) → bit_at l.named a ≡ cond (named_by (take l.pass-index l.passes) a) 1 0
