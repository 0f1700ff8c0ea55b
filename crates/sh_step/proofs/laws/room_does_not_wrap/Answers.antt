use Rattle.sh_step.proofs.OperationLaws as law
use Rattle.sh_step.proofs.laws.room_does_not_wrap.Goals as goal

pub returns : goal.returns
returns c = law.room_does_not_wrap
