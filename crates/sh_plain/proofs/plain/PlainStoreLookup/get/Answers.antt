use Rattle.std.proofs.Common.{subst}
use Rattle.sh_history.specs.History.{Legal}
use Rattle.sh_plain.specs.Plain.{Plain}
use Rattle.sh_plain.proofs.Held.{book_stands}
use Rattle.sh_plain.proofs.Leaves.{get_leaves}
use Rattle.sh_plain.proofs.plain.PlainStoreLookup.get.Goals as goal

pub returns-clause-stands : goal.returns-clause-stands
returns-clause-stands g c = book_stands g.L.KeyLayout.layout _ _ _ _ _ _ c.self-2.invariant c.self-2.view_is

pub returns-clause-leaves : goal.returns-clause-leaves
returns-clause-leaves g c =
    let P : Plain → Type 0 = λ s. Legal s.passes g.L.KeyLayout.layout.guard_max s.entries in
    get_leaves g.L.KeyLayout.layout c.args.self.now c.args.key (subst P c.self.view_is c.self.invariant.legal)
    c.plain_get-result.result c.plain_get-result.new.self c.plain_get-result.ensures
