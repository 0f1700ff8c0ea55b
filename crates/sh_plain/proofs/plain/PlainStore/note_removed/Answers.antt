use Rattle.sh_plain.proofs.Sound.{removable_is_within, sound_removed}
use Rattle.sh_plain.proofs.plain.PlainStore.note_removed.Goals as goal

pub overflow_sub-at : goal.overflow_sub-at
overflow_sub-at g c =
    rw c.first_key.ensures.first
    (removable_is_within g.L.KeyLayout.layout c.self.inside.entries.items c.self.inside.pass c.self.inside.passes
    c.self.inside.issued.items c.self.inside.holds.items
    c.self.invariant c.self.inside.pass c.args.key (rw (← c.self.view_is) at c.requires)).0

pub index_mut-requires : goal.index_mut-requires
index_mut-requires g c =
    rw (c.first_key.ensures.first, c.self.inside.issued.ok.0)
    (removable_is_within g.L.KeyLayout.layout c.self.inside.entries.items c.self.inside.pass c.self.inside.passes
    c.self.inside.issued.items c.self.inside.holds.items
    c.self.invariant c.self.inside.pass c.args.key (rw (← c.self.view_is) at c.requires)).1

pub invariant_of-self : goal.invariant_of-self
invariant_of-self g c =
    rw (c.in-Ok.ensures.items, c.first_key.ensures.first)
    (sound_removed g.L.KeyLayout.layout c.self.inside.entries.items c.self.inside.pass c.self.inside.passes
    c.self.inside.issued.items c.self.inside.holds.items
    c.self.invariant c.args.key c.index_mut.result.now _ (rw (← c.self.view_is) at c.requires)
    (rw c.first_key.ensures.first at c.index_mut.ensures.value))
