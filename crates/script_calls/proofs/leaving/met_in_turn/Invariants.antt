use Rattle.script_calls.proofs.leaving.met_in_turn.Given as goal

abbrev pub ghost-heed_in_turn : goal.ghost-heed_in_turn
ghost-heed_in_turn g a = g.at

abbrev pub ghost-left_and_met : goal.ghost-left_and_met
ghost-left_and_met g a = g.at
