use Rattle.std.proofs.Common.{ℕ, ◌<◌}
use Rattle.sh_shard.specs.Pages.{page_at}
use Rattle.sh_shard.specs.Shards.{IsSpare}
use Rattle.sh_shard.proofs.shard.ShardOn.spare_from.Given as goal

abbrev pub invariant-loop-page : goal.invariant-loop-page
invariant-loop-page g l = (p : ℕ) → p < l.page → ¬ IsSpare l.class (page_at l.self.pages p)
