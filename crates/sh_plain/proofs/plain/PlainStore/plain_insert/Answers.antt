use Rattle.sh_plain.proofs.Sound.{sound_inserted}
use Rattle.sh_plain.proofs.plain.PlainStore.plain_insert.Goals as goal

pub invariant_of-self-in-Ok : goal.invariant_of-self-in-Ok
invariant_of-self-in-Ok g c =
    let inserted = c.self.inside.issued.ok.0 in
    let room = rw (c.key_count.ensures, c.len-inserted.ensures, inserted) at c.if-inserted-key_count.false in
    rw (
      c.in-Ok.ensures.items,
      c.push_reserved.ensures.items,
      c.make_room.ensures.items,
      c.first_key.ensures.first,
      c.len-inserted.ensures,
      inserted,
      c.copy.ensures,
      c.copy-in-Ok.ensures,
    )
    (sound_inserted g.L.KeyLayout.layout c.self.inside.entries.items c.self.inside.pass c.self.inside.passes
    c.self.inside.issued.items c.self.inside.holds.items
    c.self.invariant c.args.value.now room)
