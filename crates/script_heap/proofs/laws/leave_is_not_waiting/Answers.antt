use Rattle.script_heap.proofs.SmallScripts.{leave_is_not_waiting}
use Rattle.script_heap.proofs.laws.leave_is_not_waiting.Goals as goal

pub returns : goal.returns
returns c = leave_is_not_waiting
