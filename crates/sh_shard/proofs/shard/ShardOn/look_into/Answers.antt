use Rattle.std.proofs.Common.{subst}
use Rattle.sh_pass.specs.Fetching.{FetchDoes}
use Rattle.sh_pass.specs.Rooms.{FillsRoom}
use Rattle.sh_shard.specs.Shards.{Sharded, ReturnsSlot, StaysOwner}
use Rattle.sh_shard.proofs.Booking.{stays_owner}
use Rattle.sh_shard.proofs.FullPages.{but_gained}
use Rattle.sh_shard.proofs.ComingBack.{returns_slot}
use Rattle.sh_shard.proofs.shard.ShardOn.look_into.Goals as goal

pub return_one-requires-clause-sorted : goal.return_one-requires-clause-sorted
return_one-requires-clause-sorted g c = but_gained c.look_into-answer.result.1 c.self.inside.pages
    c.look_into-answer.new.self c.self.inside.queues c.self.invariant c.look_into-answer.ensures.gained

pub returns-clause-returned : goal.returns-clause-returned
returns-clause-returned g c = subst (λ (o : Sharded). ReturnsSlot o (record {
  pages = c.look_into-answer.new.self;
  queues = c.return_one.new.queues;
})) c.self.view_is (returns_slot c.look_into-answer.result.1 c.self.inside.pages c.look_into-answer.new.self
    c.self.inside.queues c.return_one.new.queues c.look_into-answer.ensures.gained c.return_one.ensures.moved)

pub returns-clause-stays : goal.returns-clause-stays
returns-clause-stays g c = subst (λ (o : Sharded). StaysOwner g.L.KeyLayout.layout o (record {
  pages = c.look_into-answer.new.self;
  queues = c.return_one.new.queues;
})) c.self.view_is (stays_owner g.L.KeyLayout.layout c.look_into-answer.result.1 c.self.inside.pages
    c.look_into-answer.new.self c.self.inside.queues c.return_one.new.queues c.look_into-answer.ensures.holds
    c.look_into-answer.ensures.gained c.look_into-answer.ensures.remains)

pub returns-clause-does : goal.returns-clause-does
returns-clause-does g c =
    let P : Sharded → Type 0 = λ o. FillsRoom g.M.Room.takes (λ answer. FetchDoes g.L.KeyLayout.layout c.args.key
    o.pages.owner answer c.look_into-answer.new.self.owner) c.args.room.now c.look_into-answer.result.0
    c.look_into-answer.new.room in
    subst P c.self.view_is c.look_into-answer.ensures.does
