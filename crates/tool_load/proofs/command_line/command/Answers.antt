use Rattle.std.proofs.Common.{◌∙◌, refl, ap}
use Rattle.std.proofs.lemmas.Result.{IfOk-weaker}
use Rattle.tool_load.specs.BenchLine.{with_numbers}
use Rattle.tool_load.proofs.BenchLemmas.{added}
use Rattle.tool_load.proofs.command_line.command.Goals as goal

pub returns : goal.returns
returns c =
    let one = added _ _ _ _ _ c.in_ok-arg.ensures c.program.ensures c.workload_argument.ensures refl in
    let two = added _ _ _ _ _ c.in_ok-arg-2.ensures one c.layout_argument.ensures refl in
    let three = added _ _ _ _ _ c.in_ok-chosen.ensures two c.mixed_argument.ensures refl in
    IfOk-weaker c.with_numbers.result _ _ (λ x is. is ∙ ap with_numbers three) c.with_numbers.ensures
