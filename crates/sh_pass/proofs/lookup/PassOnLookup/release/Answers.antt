use Rattle.sh_pass.proofs.Booking.{release_leaves}
use Rattle.sh_pass.proofs.lookup.PassOnLookup.release.Goals as goal

pub returns-clause-leaves : goal.returns-clause-leaves
returns-clause-leaves g c = release_leaves g.L.KeyLayout.layout c.args.hold.key c.args.self.now c.release.new.self
    c.release.result c.release.ensures.remains.stood c.release.ensures.does
