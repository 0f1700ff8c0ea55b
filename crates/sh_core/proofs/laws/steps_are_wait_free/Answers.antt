use Rattle.sh_core.proofs.WaitFree.{wait_free}
use Rattle.sh_core.proofs.laws.steps_are_wait_free.Goals as goal

pub returns : goal.returns
returns c = wait_free
