use Rattle.sh_pass.proofs.Booking.{read_leaves}
use Rattle.sh_shard.proofs.shard.store.ShardOnLookup.read.Goals as goal

pub returns-clause-leaves : goal.returns-clause-leaves
returns-clause-leaves g c = read_leaves g.L.KeyLayout.layout c.args.hold.key c.args.self.now.pages.owner
    c.read.new.self.pages.owner c.read.result c.read.ensures.stays.remains.stood c.read.ensures.does
