use Rattle.std.proofs.Common.{subst}
use Rattle.sh_shard.specs.Shards.{Sharded, HoldsShard}
use Rattle.sh_shard.proofs.shard.ShardOn.standing.Goals as goal

pub returns : goal.returns
returns g c = subst (λ (o : Sharded). HoldsShard g.L.KeyLayout.layout o) c.self.view_is c.shape-known.ensures.holds
