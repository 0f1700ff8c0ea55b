use Rattle.std.proofs.Common.{◌∙◌}
use Rattle.sh_step.proofs.RunsLaws.{all_empty_is_none}
use Rattle.sh_step.proofs.part.runs.has_no_slot.Goals as goal

pub returns : goal.returns
returns c = c.all_empty.ensures ∙ all_empty_is_none c.args.runs.now.items
