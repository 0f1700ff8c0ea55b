use Rattle.script_heap.proofs.heap_output.heap_lines.Given as goal

abbrev pub ghost-lines_on : goal.ghost-lines_on
ghost-lines_on g a = (a.heap.now, a.tag, a.lines.now)
