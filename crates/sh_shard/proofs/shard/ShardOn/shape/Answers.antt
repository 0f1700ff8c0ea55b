use Rattle.std.proofs.Common.{◌≡◌, subst}
use Rattle.sh_shard.specs.Shards.{Sharded, HoldsShard}
use Rattle.sh_shard.proofs.shard.ShardOn.shape.Goals as goal

pub returns-clause-same : goal.returns-clause-same
returns-clause-same g c = subst (λ (o : Sharded). o.pages.owner.view.shape ≡ o.pages.owner.heap.shape) c.self.view_is
    c.shape.ensures.holds.shape

pub returns-clause-holds : goal.returns-clause-holds
returns-clause-holds g c = subst (λ (o : Sharded). HoldsShard g.L.KeyLayout.layout o) c.self.view_is
    c.shape.ensures.holds
