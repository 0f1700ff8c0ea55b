use Rattle.sh_step.proofs.FootstepLaws.{counts_grow}
use Rattle.sh_step.proofs.laws.footsteps_count.Goals as goal

pub returns : goal.returns
returns c = counts_grow
