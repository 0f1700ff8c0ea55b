use Rattle.sh_step.proofs.RunsLaws.{none_in_runs}
use Rattle.sh_step.proofs.part.own_slots.OwnSlots.new.Goals as goal

pub returns : goal.returns
returns c = none_in_runs _ c.new.ensures.items
