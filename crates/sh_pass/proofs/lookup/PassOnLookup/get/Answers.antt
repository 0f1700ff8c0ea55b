use Rattle.sh_pass.proofs.Booking.{get_leaves}
use Rattle.sh_pass.proofs.lookup.PassOnLookup.get.Goals as goal

pub returns-clause-leaves : goal.returns-clause-leaves
returns-clause-leaves g c = get_leaves g.L.KeyLayout.layout c.args.key c.args.self.now c.get.new.self c.get.result
    c.get.ensures.remains.stands c.get.ensures.does
