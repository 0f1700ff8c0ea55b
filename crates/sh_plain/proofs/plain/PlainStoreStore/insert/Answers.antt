use Rattle.std.proofs.Common.{subst}
use Rattle.sh_plain.specs.Plain.{Plain, IsSound}
use Rattle.sh_plain.proofs.Held.{book_stands}
use Rattle.sh_plain.proofs.NewKey.{new_key}
use Rattle.sh_plain.proofs.plain.PlainStoreStore.insert.Goals as goal

pub returns-clause-stands : goal.returns-clause-stands
returns-clause-stands g c = book_stands g.L.KeyLayout.layout _ _ _ _ _ _ c.self-2.invariant c.self-2.view_is

pub returns-clause-new_key : goal.returns-clause-new_key
returns-clause-new_key g c =
    let P : Plain → Type 0 = λ s. IsSound g.L.KeyLayout.layout s.entries s.pass s.passes c.self.inside.issued.items
    c.self.inside.holds.items in
    new_key g.L.KeyLayout.layout c.self.inside.issued.items c.self.inside.holds.items c.args.self.now
    (subst P c.self.view_is c.self.invariant)
    c.args.value.now c.plain_insert-result.result c.plain_insert-result.new.self c.plain_insert-result.ensures
