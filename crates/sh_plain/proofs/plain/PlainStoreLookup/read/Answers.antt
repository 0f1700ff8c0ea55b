use Rattle.std.proofs.Common.{refl}
use Rattle.sh_plain.proofs.Held.{legal_stands}
use Rattle.sh_plain.proofs.Leaves.{read_leaves}
use Rattle.sh_plain.proofs.plain.PlainStoreLookup.read.Goals as goal

pub returns-clause-stands : goal.returns-clause-stands
returns-clause-stands g c = legal_stands g.L.KeyLayout.layout c.args.self.now c.plain_read.ensures.legal

pub returns-clause-leaves : goal.returns-clause-leaves
returns-clause-leaves g c = read_leaves g.L.KeyLayout.layout c.args.self.now c.args.hold.key c.plain_read.ensures.legal
    c.plain_read.result c.args.self.now c.plain_read.ensures.exact refl
