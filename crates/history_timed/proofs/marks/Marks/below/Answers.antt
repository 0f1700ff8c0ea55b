use Rattle.std.proofs.Common.{arith}
use Rattle.history_timed.proofs.MarkLemmas.{below_count}
use Rattle.history_timed.proofs.marks.Marks.below.Goals as goal

pub overflow_sub-result : goal.overflow_sub-result
overflow_sub-result c =
    let all = c.before-2.ensures in
    let lower = c.before-3.ensures in
    let counts = below_count c.args.key c.args.pass c.args.moment c.args.self.now in
    omega (arith, all, lower, counts)

pub returns : goal.returns
returns c =
    let all = c.before-2.ensures in
    let lower = c.before-3.ensures in
    let counts = below_count c.args.key c.args.pass c.args.moment c.args.self.now in
    omega (arith, all, lower, counts)
