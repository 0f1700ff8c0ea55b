use Rattle.script_heap.proofs.LoneAdopt.{lone_adopt}
use Rattle.script_heap.proofs.laws.lone_adopt_is_not_taken.Goals as goal

pub returns : goal.returns
returns c = lone_adopt
