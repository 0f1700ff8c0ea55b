use Rattle.std.proofs.Common.{true}
use Rattle.script_heap.proofs.heap_output.lines_on.Given as goal

abbrev pub ghost-gathered : goal.ghost-gathered
ghost-gathered g a = (g.at.0, g.at.1, g.at.2, true)
