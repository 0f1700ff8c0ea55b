use Rattle.sh_pass.proofs.Booking.{release_leaves}
use Rattle.sh_shard.proofs.shard.store.ShardOnLookup.release.Goals as goal

pub returns-clause-leaves : goal.returns-clause-leaves
returns-clause-leaves g c = release_leaves g.L.KeyLayout.layout c.args.hold.key c.args.self.now.pages.owner
    c.release.new.self.pages.owner c.release.result c.release.ensures.stays.remains.stood c.release.ensures.does
