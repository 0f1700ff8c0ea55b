use Rattle.script_heap.proofs.heap_lines.gathered.Given as goal

abbrev pub ghost-told : goal.ghost-told
ghost-told g a = g.at
