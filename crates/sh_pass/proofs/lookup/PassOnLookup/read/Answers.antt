use Rattle.sh_pass.proofs.Booking.{read_leaves}
use Rattle.sh_pass.proofs.lookup.PassOnLookup.read.Goals as goal

pub returns-clause-leaves : goal.returns-clause-leaves
returns-clause-leaves g c = read_leaves g.L.KeyLayout.layout c.args.hold.key c.args.self.now c.read.new.self
    c.read.result c.read.ensures.remains.stood c.read.ensures.does
