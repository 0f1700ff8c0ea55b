use Rattle.std.proofs.Common.{◌==◌, ◌∙◌}
use Rattle.sh_step.proofs.ListLaws.{off_is_filtered}
use Rattle.sh_step.proofs.part.lists.forget_words.Goals as goal

pub returns : goal.returns
returns c = c.keep_other_words.ensures ∙ off_is_filtered (λ x. x.0 == c.args.key) c.args.words.now.items
