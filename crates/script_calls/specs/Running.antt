-- Passes and owners of the running heap, and members, which are either, as a run of calls sees them.
use Rattle.std.specs.Prelude.{map, Some}
use Rattle.sh_key.specs.Layout.{Layout}
use Rattle.sh_table.specs.declared.view.Told.{Told}
use Rattle.sh_pass.specs.Passes.{Caller}
use Rattle.sh_shard.specs.Shards.{Sharded}
use Rattle.sh_member.specs.declared.member.Side.TheVariants.{Pass, Shard}
use Rattle.sh_member.specs.Sides.{SeenSide}
use Rattle.script_calls.specs.Parts.{PassPart, PassTold, SeenPass, heap_terms, shard_owned}

-- a pass that was taken in, with its entries
abbrev pub log_told : Told → PassTold
log_told t = record { pass = t.pass; log = t.own.log }

-- the entries of a pass that is this between its calls, and the shard that it owns
abbrev pub part_of_caller : Caller → SeenSide → PassPart
part_of_caller c stands = record { log = c.view.own.log; shard = shard_owned stands; stands = stands }

-- its heap, its number, its part, the passes that it took in, and what it heard of others
abbrev pub seen_standing : Layout → Caller → SeenSide → SeenPass
seen_standing layout c stands = record {
  heap = Some c.heap;
  terms = heap_terms layout c.view.shape;
  pass = c.view.pass;
  part = part_of_caller c stands;
  told = map log_told c.view.told;
  orders = c.view.orders;
}

-- a pass that owns no shard
abbrev pub seen_of_caller : Layout → Caller → SeenPass
seen_of_caller layout c = seen_standing layout c (Pass c)

-- the member that a pass is
abbrev pub as_member : Caller → SeenSide
as_member v = Pass v

-- an owner with its shard
abbrev pub seen_of_shard : Layout → Sharded → SeenPass
seen_of_shard layout o = seen_standing layout o.pages.owner (Shard o)

-- a member, which is one of the two
abbrev pub seen_of_member : Layout → SeenSide → SeenPass
seen_of_member layout (Pass v) = seen_of_caller layout v
seen_of_member layout (Shard o) = seen_of_shard layout o
