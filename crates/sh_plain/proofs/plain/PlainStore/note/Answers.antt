use Rattle.std.specs.Prelude.{is_ok}
use Rattle.sh_plain.proofs.Sound.{sound_noted}
use Rattle.sh_plain.proofs.plain.PlainStore.note.Goals as goal

pub invariant_of-self : goal.invariant_of-self
invariant_of-self g c =
    sound_noted g.L.KeyLayout.layout c.self.inside.entries.items c.self.inside.pass c.self.inside.passes
    c.self.inside.issued.items c.self.inside.holds.items
    c.self.invariant (is_ok c.push.result) c.push.new.self.items c.args.entry
    (rw (← c.self.view_is) at c.requires.allowed) c.requires.unindexed c.push.ensures.items
