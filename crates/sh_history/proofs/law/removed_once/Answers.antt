use Rattle.sh_history.proofs.Standing as standing
use Rattle.sh_history.proofs.law.removed_once.Goals as goal

pub returns : goal.returns
returns c = standing.removed_once
