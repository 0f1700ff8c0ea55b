use Rattle.sh_step.proofs.EndLaws.{steps_come_nearer, steps_go_on}
use Rattle.sh_step.proofs.laws.hands_end.Goals as goal

pub returns-clause-nearer : goal.returns-clause-nearer
returns-clause-nearer c = steps_come_nearer

pub returns-clause-goes_on : goal.returns-clause-goes_on
returns-clause-goes_on c = steps_go_on
