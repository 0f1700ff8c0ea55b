use Rattle.sh_step.proofs.ConditionLaws.{gives_what_may_be}
use Rattle.sh_step.proofs.RowLaws.{gives_all_that_may_be}
use Rattle.sh_step.proofs.laws.conditions_have_rows.Goals as goal

pub returns-clause-only : goal.returns-clause-only
returns-clause-only c = gives_what_may_be

pub returns-clause-each : goal.returns-clause-each
returns-clause-each c = gives_all_that_may_be
