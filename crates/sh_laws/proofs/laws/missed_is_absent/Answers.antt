use Rattle.sh_laws.proofs.FoundOnce as once
use Rattle.sh_laws.proofs.laws.missed_is_absent.Goals as goal

pub returns-clause-missed : goal.returns-clause-missed
returns-clause-missed c = once.missed_is_absent

pub returns-clause-met : goal.returns-clause-met
returns-clause-met c = once.staying_is_met

pub returns-clause-removed : goal.returns-clause-removed
returns-clause-removed c = once.heard_is_removed
