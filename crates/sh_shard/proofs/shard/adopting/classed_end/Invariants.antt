use Rattle.std.proofs.Common.{◌≡◌, ℕ, ◌-◌, ◌<◌, ◌≤◌, Some}
use Rattle.sh_shard.specs.Pages.{page_at}
use Rattle.sh_shard.proofs.shard.adopting.classed_end.Given as goal

abbrev pub invariant-loop-above : goal.invariant-loop-above
invariant-loop-above g l = (p : ℕ) → l.count - l.above ≤ p → p < l.count → (page_at l.pages p).class ≡ Some 0
