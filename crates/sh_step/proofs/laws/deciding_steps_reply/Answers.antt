use Rattle.sh_step.proofs.DecidingLaws.{deciding_replies}
use Rattle.sh_step.proofs.laws.deciding_steps_reply.Goals as goal

pub returns : goal.returns
returns c = deciding_replies
