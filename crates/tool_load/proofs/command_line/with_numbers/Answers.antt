use Rattle.std.proofs.Common.{refl}
use Rattle.std.proofs.lemmas.Result.{IfOk-weaker}
use Rattle.tool_load.proofs.BenchLemmas.{added}
use Rattle.tool_load.proofs.command_line.with_numbers.Goals as goal

pub returns : goal.returns
returns c =
    let one = added _ _ _ _ _ c.in_ok-arg.ensures refl c.number_option.ensures refl in
    let two = added _ _ _ _ _ c.in_ok-arg-2.ensures one c.number_option-2.ensures refl in
    let three = added _ _ _ _ _ c.in_ok-arg-3.ensures two c.number_option-3.ensures refl in
    let four = added _ _ _ _ _ c.in_ok-arg-4.ensures three c.number_option-4.ensures refl in
    let five = added _ _ _ _ _ c.in_ok-arg-5.ensures four c.number_option-5.ensures refl in
    IfOk-weaker c.arg-6.result _ _ (λ x adds. added _ _ _ _ _ adds five c.number_option-6.ensures refl) c.arg-6.ensures
