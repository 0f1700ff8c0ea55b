use Rattle.sh_history.proofs.Standing.{value_is_inserted, gets_give_inserted, looks_give_inserted}
use Rattle.sh_history.proofs.law.one_value_a_key.Goals as goal

pub returns-clause-issued : goal.returns-clause-issued
returns-clause-issued c = value_is_inserted

pub returns-clause-got : goal.returns-clause-got
returns-clause-got c = gets_give_inserted

pub returns-clause-seen : goal.returns-clause-seen
returns-clause-seen c = looks_give_inserted
