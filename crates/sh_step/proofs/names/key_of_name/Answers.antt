use Rattle.std.proofs.Common.{rules, ◌≡◌, sym, subst}
use Rattle.sh_key.specs.Layout.{IsInRange}
use Rattle.sh_key.specs.declared.parts.Parts.{Parts}
use Rattle.sh_shape.specs.Places.{pages_of}
use Rattle.sh_step.specs.Plans.{parts_of}
use Rattle.sh_step.proofs.KeyLaws.{parts_in_range}
use Rattle.sh_step.proofs.names.key_of_name.Goals as goal

pub pack-requires : goal.pack-requires
pack-requires g c =
    let shape = c.args.shape.now in
    let name = c.args.name in
    let layout = g.L.KeyLayout.layout in
    let parts : Parts = record {
      generation = name.generation;
      shard = c.shard_of_page.result;
      page = c.local_of.result;
      slot = name.slot;
    } in
    let same : parts ≡ parts_of (pages_of shape) name = search rules in
    subst (IsInRange layout) (sym same) (parts_in_range layout shape.shards (pages_of shape) _ name c.requires.names)
