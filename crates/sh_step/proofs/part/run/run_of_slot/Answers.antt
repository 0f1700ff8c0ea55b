use Rattle.sh_step.proofs.RunLaws.{one_picked}
use Rattle.sh_step.proofs.part.run.run_of_slot.Goals as goal

pub returns : goal.returns
returns c = one_picked c.args.slot_ref.page c.args.slot_ref.slot
