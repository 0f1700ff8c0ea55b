use Rattle.std.proofs.Common.{◌∙◌, sym}
use Rattle.sh_step.proofs.RunsWithout.{none_without}
use Rattle.sh_step.proofs.part.runs.remove_slot.Goals as goal

pub returns-in_default : goal.returns-in_default
returns-in_default c = none_without c.args.slot_ref c.args.runs.now.items (sym c.run_with.ensures ∙ c.in_default.is)
