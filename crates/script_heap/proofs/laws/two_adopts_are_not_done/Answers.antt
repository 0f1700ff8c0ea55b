use Rattle.script_heap.proofs.SmallScripts.{two_adopts_are_not_done}
use Rattle.script_heap.proofs.laws.two_adopts_are_not_done.Goals as goal

pub returns : goal.returns
returns c = two_adopts_are_not_done
