use Rattle.sh_pass.proofs.Booking.{look_leaves}
use Rattle.sh_shard.proofs.shard.store.ShardOnLookup.look.Goals as goal

pub returns-clause-leaves : goal.returns-clause-leaves
returns-clause-leaves g c = look_leaves g.L.KeyLayout.layout c.args.key c.args.self.now.pages.owner
    c.look.new.self.pages.owner c.look.result c.look.ensures.does
