use Rattle.std.proofs.Common.{None, refl, subst}
use Rattle.sh_shard.specs.Shards.{Sharded, MovesNothing, StaysOwner}
use Rattle.sh_shard.proofs.Booking.{stays_owner}
use Rattle.sh_shard.proofs.shard.ShardOn.glance.Goals as goal

pub returns-clause-moved : goal.returns-clause-moved
returns-clause-moved g c = subst (λ (o : Sharded). MovesNothing o (record {
  pages = c.glance.new.self;
  queues = c.self.inside.queues;
})) c.self.view_is (c.glance.ensures.gained, refl)

pub returns-clause-stays : goal.returns-clause-stays
returns-clause-stays g c = subst (λ (o : Sharded). StaysOwner g.L.KeyLayout.layout o (record {
  pages = c.glance.new.self;
  queues = c.self.inside.queues;
})) c.self.view_is (stays_owner g.L.KeyLayout.layout None c.self.inside.pages c.glance.new.self
    c.self.inside.queues c.self.inside.queues c.glance.ensures.holds c.glance.ensures.gained
    c.glance.ensures.remains)
