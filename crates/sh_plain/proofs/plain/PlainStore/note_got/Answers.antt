use Rattle.sh_plain.proofs.Sound.{sound_got}
use Rattle.sh_plain.proofs.plain.PlainStore.note_got.Goals as goal

pub invariant_of-self-in-Ok : goal.invariant_of-self-in-Ok
invariant_of-self-in-Ok g c =
    rw (c.in-Ok.ensures.items, c.push_reserved.ensures.items, c.make_room.ensures.items)
    (sound_got g.L.KeyLayout.layout c.self.inside.entries.items c.self.inside.pass c.self.inside.passes
    c.self.inside.issued.items c.self.inside.holds.items
    c.self.invariant c.args.key c.args.value (rw (← c.self.view_is) at c.requires))
