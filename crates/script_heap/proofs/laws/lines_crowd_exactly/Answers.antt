use Rattle.script_heap.proofs.CrowdedLines.{lines_crowd_exactly}
use Rattle.script_heap.proofs.laws.lines_crowd_exactly.Goals as goal

pub returns : goal.returns
returns c = lines_crowd_exactly
