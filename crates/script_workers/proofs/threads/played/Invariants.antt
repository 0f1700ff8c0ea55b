use Rattle.script_workers.proofs.threads.played.Given as goal

abbrev pub ghost-met_in_turn : goal.ghost-met_in_turn
ghost-met_in_turn g a = (g.B.Room.heap, g.B.Room.terms)
