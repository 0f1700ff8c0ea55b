use Rattle.script_beside.proofs.Beside as beside
use Rattle.script_beside.proofs.laws.heap_is_beside_plain.Goals as goal

pub returns : goal.returns
returns c = beside.heap_is_beside_plain
