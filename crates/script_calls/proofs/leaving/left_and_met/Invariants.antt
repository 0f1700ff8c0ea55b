use Rattle.script_calls.proofs.leaving.left_and_met.Given as goal

abbrev pub ghost-leave_in_turn : goal.ghost-leave_in_turn
ghost-leave_in_turn g a = g.at

abbrev pub ghost-met : goal.ghost-met
ghost-met g a = g.at

abbrev pub ghost-bind_all : goal.ghost-bind_all
ghost-bind_all g a = g.at
