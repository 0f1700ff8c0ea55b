use Rattle.std.proofs.Common.{◌∙◌}
use Rattle.sh_pass.proofs.ShardPages.{on_page_in_range, packed_on_page}
use Rattle.sh_pass.proofs.owner_slots.key_on_page.Goals as goal

pub pack-requires : goal.pack-requires
pack-requires g c = on_page_in_range g.L.KeyLayout.layout c.args.shape.now c.args.name.shard c.args.name.page
    c.args.stored c.requires.place c.requires.page c.requires.names

pub returns : goal.returns
returns g c = c.pack.ensures.key ∙ packed_on_page g.L.KeyLayout.layout c.args.shape.now c.args.name.shard
    c.args.name.page c.args.stored c.requires.place c.requires.page
