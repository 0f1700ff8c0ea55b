use Rattle.std.proofs.Common.{◌∙◌, ap}
use Rattle.sh_step.specs.Runs.{slots_in}
use Rattle.sh_step.proofs.RunsLaws.{other_pages_kept}
use Rattle.sh_step.proofs.part.runs.forget_page.Goals as goal

pub returns-clause-slots : goal.returns-clause-slots
returns-clause-slots c = ap slots_in c.keep_other_pages.ensures.items
    ∙ other_pages_kept c.args.page c.args.runs.now.items
