use Rattle.std.proofs.Common.{◌∙◌, sym, arith, rules}
use Rattle.script_orders.proofs.CountedLines.{line_passed}
use Rattle.script_orders.proofs.expected.next_counted.Goals as goal

pub loop-line-preserved : goal.loop-line-preserved
loop-line-preserved c = record {
  counted = sym (line_passed c.loop-line.rest.now c.in-Some.line.now c.in-Some.more.now c.in-Some.ensures.some
      (search rules)) ∙ c.loop-line.invariant.counted;
  shorter = omega (arith, c.in-Some.ensures.shorter, c.loop-line.invariant.shorter);
}
