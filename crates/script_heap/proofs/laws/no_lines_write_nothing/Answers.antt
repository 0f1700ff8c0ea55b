use Rattle.script_heap.proofs.NoLines.{no_lines_write_nothing}
use Rattle.script_heap.proofs.laws.no_lines_write_nothing.Goals as goal

pub returns : goal.returns
returns c = no_lines_write_nothing
