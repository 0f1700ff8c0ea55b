use Rattle.std.proofs.Common.{◌≡◌, ◌++◌, take, codes}
use Rattle.script_output.specs.Numbers.{words_text}
use Rattle.script_orders.proofs.report.push_passes.Given as goal

abbrev pub invariant-loop-pass : goal.invariant-loop-pass
invariant-loop-pass l = l.out.items ≡ l.fn.out.items ++ (codes "; order" ++ words_text (take l.pass-index l.passes))
