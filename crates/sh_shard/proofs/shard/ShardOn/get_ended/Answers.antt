use Rattle.std.proofs.Common.{subst}
use Rattle.sh_shard.specs.Shards.{Sharded, ReturnsSlot, StaysOwner}
use Rattle.sh_shard.proofs.Booking.{stays_owner}
use Rattle.sh_shard.proofs.FullPages.{but_gained}
use Rattle.sh_shard.proofs.ComingBack.{returns_slot}
use Rattle.sh_shard.proofs.shard.ShardOn.get_ended.Goals as goal

pub return_one-requires-clause-sorted : goal.return_one-requires-clause-sorted
return_one-requires-clause-sorted g c = but_gained c.get_ended-answer.result.1 c.self.inside.pages
    c.get_ended-answer.new.self c.self.inside.queues c.self.invariant c.get_ended-answer.ensures.gained

pub returns-clause-returned : goal.returns-clause-returned
returns-clause-returned g c = subst (λ (o : Sharded). ReturnsSlot o (record {
  pages = c.get_ended-answer.new.self;
  queues = c.return_one.new.queues;
})) c.self.view_is (returns_slot c.get_ended-answer.result.1 c.self.inside.pages c.get_ended-answer.new.self
    c.self.inside.queues c.return_one.new.queues c.get_ended-answer.ensures.gained c.return_one.ensures.moved)

pub returns-clause-stays : goal.returns-clause-stays
returns-clause-stays g c = subst (λ (o : Sharded). StaysOwner g.L.KeyLayout.layout o (record {
  pages = c.get_ended-answer.new.self;
  queues = c.return_one.new.queues;
})) c.self.view_is (stays_owner g.L.KeyLayout.layout c.get_ended-answer.result.1 c.self.inside.pages
    c.get_ended-answer.new.self c.self.inside.queues c.return_one.new.queues c.get_ended-answer.ensures.holds
    c.get_ended-answer.ensures.gained c.get_ended-answer.ensures.remains)
