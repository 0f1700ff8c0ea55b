use Rattle.std.proofs.Common.{refl}
use Rattle.sh_member.proofs.shard.ShardOnReader.heap_places.Goals as goal

pub returns-clause-rest : goal.returns-clause-rest
returns-clause-rest g c = record {
  heap = refl;
  shard = refl;
  idle = c.shape.ensures.holds.idle;
  shape = c.shape.ensures.holds.shape;
  stood = c.shape.ensures.holds.stands;
  stands = c.shape.ensures.holds.stands;
}
