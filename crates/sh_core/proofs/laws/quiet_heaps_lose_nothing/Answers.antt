use Rattle.sh_core.proofs.Quiet.{quiet_loses_nothing}
use Rattle.sh_core.proofs.laws.quiet_heaps_lose_nothing.Goals as goal

pub returns : goal.returns
returns c = quiet_loses_nothing
