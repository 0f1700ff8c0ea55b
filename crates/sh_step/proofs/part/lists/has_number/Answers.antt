use Rattle.std.proofs.Common.{◌==◌, ◌∙◌}
use Rattle.sh_step.proofs.ListLaws.{any_is_has}
use Rattle.sh_step.proofs.part.lists.has_number.Goals as goal

pub returns : goal.returns
returns c = c.any_number.ensures ∙ any_is_has (λ x. x == c.args.number) c.args.numbers.now.items
