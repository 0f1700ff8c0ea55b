use Rattle.sh_quiet.proofs.Exact.{last_ones_are_quiet}
use Rattle.sh_quiet.proofs.laws.last_ones_are_quiet.Goals as goal

pub returns : goal.returns
returns c = last_ones_are_quiet
