use Rattle.std.proofs.Common.{sym, ◌∙◌}
use Rattle.sh_key.specs.Layout.{first_key}
use Rattle.sh_plain.proofs.Holds.{held_is_found, found_is_mine}
use Rattle.sh_plain.proofs.Sound.{sound_released}
use Rattle.sh_plain.proofs.plain.PlainStore.note_released.Goals as goal

pub unreachable-requires : goal.unreachable-requires
unreachable-requires g c =
    let found = rw c.deref.ensures.value at c.find_hold.ensures in
    held_is_found (first_key g.L.KeyLayout.layout) c.self.inside.entries.items c.self.inside.issued.items
    c.self.inside.holds.items c.self.invariant.index
    c.self.inside.pass c.args.key (rw (← c.self.view_is) at c.requires) (sym found ∙ c.in_default.is)

pub invariant_of-self : goal.invariant_of-self
invariant_of-self g c =
    let found = rw c.deref.ensures.value at c.find_hold.ensures in
    let mine = found_is_mine c.self.inside.pass c.args.key c.in-Some.at c.swap_remove.result c.self.inside.holds.items
    (sym found ∙ c.in-Some.is) in
    rw (c.in-Ok.ensures.items, c.swap_remove.ensures.items)
    (sound_released g.L.KeyLayout.layout c.self.inside.entries.items c.self.inside.pass c.self.inside.passes
    c.self.inside.issued.items c.self.inside.holds.items
    c.self.invariant c.args.key c.in-Some.at c.swap_remove.result (rw (← c.self.view_is) at c.requires) mine.0 mine.1)
