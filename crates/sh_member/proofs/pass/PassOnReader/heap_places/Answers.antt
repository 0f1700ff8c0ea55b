use Rattle.std.proofs.Common.{refl}
use Rattle.sh_member.proofs.pass.PassOnReader.heap_places.Goals as goal

pub returns-clause-rest : goal.returns-clause-rest
returns-clause-rest g c = record {
  heap = refl;
  shard = refl;
  idle = c.shape.ensures.rest.idle;
  shape = c.shape.ensures.rest.shape;
  stood = c.shape.ensures.stands;
  stands = c.shape.ensures.stands;
}
