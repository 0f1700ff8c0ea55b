use Rattle.sh_plain.specs.Plain.{look_reply}
use Rattle.sh_plain.proofs.Held.{book_stands}
use Rattle.sh_plain.proofs.Leaves.{look_leaves, setting_stays}
use Rattle.sh_plain.proofs.plain.PlainStoreLookup.look.Goals as goal

pub returns-clause-stands : goal.returns-clause-stands
returns-clause-stands g c = book_stands g.L.KeyLayout.layout _ _ _ _ _ _ c.self.invariant c.self.view_is

pub returns-clause-same : goal.returns-clause-same
returns-clause-same g c =
    setting_stays g.L.KeyLayout.layout (look_reply g.L.KeyLayout.layout c.args.self.now c.args.key) c.args.self.now
    c.plain_look-result.new.self
    c.plain_look-result.result c.plain_look-result.ensures

pub returns-clause-leaves : goal.returns-clause-leaves
returns-clause-leaves g c =
    look_leaves g.L.KeyLayout.layout c.args.self.now c.args.key c.plain_look-result.result
    c.plain_look-result.new.self c.plain_look-result.ensures
