use Rattle.std.proofs.Common.{rules}
use Rattle.sh_key.specs.Layout.{first_key}
use Rattle.sh_plain.proofs.Holds.{holds_on_is}
use Rattle.sh_plain.proofs.plain.PlainStore.is_full_of_holds.Goals as goal

pub returns-clause-full : goal.returns-clause-full
returns-clause-full g c =
    rw (
      ← c.self.view_is,
      holds_on_is (first_key g.L.KeyLayout.layout) c.self.inside.entries.items c.self.inside.issued.items
          c.self.inside.holds.items c.self.invariant.index c.args.key,
      ← (rw c.deref.ensures.value at c.holds_on.ensures),
    ) (search rules)
