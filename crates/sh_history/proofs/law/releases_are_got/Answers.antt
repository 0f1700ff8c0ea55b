use Rattle.sh_history.proofs.Standing as standing
use Rattle.sh_history.proofs.law.releases_are_got.Goals as goal

pub returns : goal.returns
returns c = standing.releases_are_got
