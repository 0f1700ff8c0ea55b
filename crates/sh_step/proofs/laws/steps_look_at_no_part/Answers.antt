use Rattle.sh_step.proofs.StepLaws.{steps_same, stores_blind}
use Rattle.sh_step.proofs.laws.steps_look_at_no_part.Goals as goal

pub returns-clause-steps : goal.returns-clause-steps
returns-clause-steps c = steps_same

pub returns-clause-stores : goal.returns-clause-stores
returns-clause-stores c = stores_blind
