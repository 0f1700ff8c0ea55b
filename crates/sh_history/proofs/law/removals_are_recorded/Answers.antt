use Rattle.sh_history.proofs.Standing.{removed_has_removal}
use Rattle.sh_history.proofs.law.removals_are_recorded.Goals as goal

pub returns : goal.returns
returns c = removed_has_removal
