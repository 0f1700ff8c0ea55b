use Rattle.sh_pass.proofs.Booking.{get_leaves}
use Rattle.sh_shard.proofs.shard.store.ShardOnLookup.get.Goals as goal

pub returns-clause-leaves : goal.returns-clause-leaves
returns-clause-leaves g c = get_leaves g.L.KeyLayout.layout c.args.key c.args.self.now.pages.owner
    c.get.new.self.pages.owner c.get.result
    c.get.ensures.stays.holds.stands c.get.ensures.does
