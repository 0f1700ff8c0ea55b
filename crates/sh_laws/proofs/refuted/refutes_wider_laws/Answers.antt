use Rattle.sh_laws.proofs.Counterexamples.{remover_matters, earlier_reply_comes_later, removed_key_is_held}
use Rattle.sh_laws.proofs.Counterexamples.{crowded_without_holds, seventeen_are_marked, sixty_four_are_cut_off}
use Rattle.sh_laws.proofs.refuted.refutes_wider_laws.Goals as goal

pub returns-clause-seventeen : goal.returns-clause-seventeen
returns-clause-seventeen c = seventeen_are_marked

pub returns-clause-sixty_four : goal.returns-clause-sixty_four
returns-clause-sixty_four c = sixty_four_are_cut_off

pub returns-clause-marked : goal.returns-clause-marked
returns-clause-marked c = remover_matters

pub returns-clause-order : goal.returns-clause-order
returns-clause-order c = earlier_reply_comes_later

pub returns-clause-holds : goal.returns-clause-holds
returns-clause-holds c = removed_key_is_held

pub returns-clause-crowded : goal.returns-clause-crowded
returns-clause-crowded c = crowded_without_holds
