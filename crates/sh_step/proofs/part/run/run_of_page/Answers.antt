use Rattle.std.proofs.Common.{◌∙◌, ◌-◌, ap, arith}
use Rattle.sh_step.specs.Runs.{picked}
use Rattle.sh_step.proofs.RunLaws.{first_picked}
use Rattle.sh_step.proofs.part.run.run_of_page.Goals as goal

pub returns : goal.returns
returns c =
    let few = c.requires in
    ap (λ b. picked c.args.page 0 64 (b - 1)) c.power_of_two.ensures
    ∙ first_picked c.args.page 0 64 c.args.count (omega arith)
