use Rattle.std.proofs.Common.{◌==◌, ◌∙◌}
use Rattle.sh_step.proofs.ListLaws.{off_is_filtered}
use Rattle.sh_step.proofs.part.lists.forget_notes.Goals as goal

pub returns-clause-items : goal.returns-clause-items
returns-clause-items c =
    c.keep_other_notes.ensures.items ∙ off_is_filtered (λ x. x.0 == c.args.number) c.args.notes.now.items
