use Rattle.sh_plain.specs.Plain.{remove_reply}
use Rattle.sh_plain.proofs.Held.{book_stands}
use Rattle.sh_plain.proofs.Leaves.{remove_leaves, setting_stays}
use Rattle.sh_plain.proofs.plain.PlainStoreLookup.remove.Goals as goal

pub returns-clause-stands : goal.returns-clause-stands
returns-clause-stands g c = book_stands g.L.KeyLayout.layout _ _ _ _ _ _ c.self.invariant c.self.view_is

pub returns-clause-same : goal.returns-clause-same
returns-clause-same g c =
    setting_stays g.L.KeyLayout.layout (remove_reply g.L.KeyLayout.layout c.args.self.now c.args.key) c.args.self.now
    c.plain_remove-result.new.self
    c.plain_remove-result.result c.plain_remove-result.ensures

pub returns-clause-leaves : goal.returns-clause-leaves
returns-clause-leaves g c =
    remove_leaves g.L.KeyLayout.layout c.args.self.now c.args.key c.plain_remove-result.result
    c.plain_remove-result.new.self c.plain_remove-result.ensures
