use Rattle.sh_quiet.proofs.Leaves.{leaves_never_wait}
use Rattle.sh_quiet.proofs.laws.leaves_never_wait.Goals as goal

pub returns : goal.returns
returns c = leaves_never_wait
