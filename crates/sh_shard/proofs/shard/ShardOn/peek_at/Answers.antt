use Rattle.std.proofs.Common.{None, refl, subst}
use Rattle.sh_shard.specs.Shards.{Sharded, MovesNothing, StaysOwner}
use Rattle.sh_shard.proofs.Booking.{stays_owner}
use Rattle.sh_shard.proofs.shard.ShardOn.peek_at.Goals as goal

pub returns-clause-moved : goal.returns-clause-moved
returns-clause-moved g c = subst (λ (o : Sharded). MovesNothing o (record {
  pages = c.peek_at.new.self;
  queues = c.self.inside.queues;
})) c.self.view_is (c.peek_at.ensures.gained, refl)

pub returns-clause-stays : goal.returns-clause-stays
returns-clause-stays g c = subst (λ (o : Sharded). StaysOwner g.L.KeyLayout.layout o (record {
  pages = c.peek_at.new.self;
  queues = c.self.inside.queues;
})) c.self.view_is (stays_owner g.L.KeyLayout.layout None c.self.inside.pages c.peek_at.new.self
    c.self.inside.queues c.self.inside.queues c.peek_at.ensures.holds c.peek_at.ensures.gained
    c.peek_at.ensures.remains)
