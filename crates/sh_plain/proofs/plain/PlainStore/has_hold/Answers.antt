use Rattle.sh_key.specs.Layout.{first_key}
use Rattle.sh_plain.proofs.Holds.{hold_is_found}
use Rattle.sh_plain.proofs.plain.PlainStore.has_hold.Goals as goal

pub returns-clause-held : goal.returns-clause-held
returns-clause-held g c =
    rw (← c.self.view_is, c.is_some.ensures, c.find_hold.ensures, c.deref.ensures.value)
    (hold_is_found (first_key g.L.KeyLayout.layout) c.self.inside.entries.items c.self.inside.issued.items
    c.self.inside.holds.items
    c.self.invariant.index c.self.inside.pass c.args.key)
