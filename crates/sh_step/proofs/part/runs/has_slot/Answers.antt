use Rattle.std.proofs.Common.{◌∙◌}
use Rattle.sh_step.proofs.RunsLaws.{any_run_is_has}
use Rattle.sh_step.proofs.part.runs.has_slot.Goals as goal

pub returns : goal.returns
returns c = c.any_run_has.ensures ∙ any_run_is_has c.args.slot_ref c.args.runs.now.items
