use Rattle.sh_member.proofs.CallersOf.{caller_rests, caller_shape}
use Rattle.sh_member.proofs.member.reading.MemberReader.heap_places.Goals as goal

pub returns-clause-is : goal.returns-clause-is
returns-clause-is g c = rw (← caller_shape c.args.self.now c.shape.result.now c.shape.ensures.is) c.heap_places.ensures

pub returns-clause-rest : goal.returns-clause-rest
returns-clause-rest g c = caller_rests g.L.KeyLayout.layout c.args.self.now c.shape.ensures.stands
