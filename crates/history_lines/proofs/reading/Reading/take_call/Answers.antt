use Rattle.std.proofs.Common.{arith}
use Rattle.history_lines.proofs.ReadingLemmas.{call_taken}
use Rattle.history_lines.proofs.reading.Reading.take_call.Goals as goal

pub returns-in-Ok : goal.returns-in-Ok
returns-in-Ok c = λ book audit is some.
    let few = c.if-self-gt0.false in
    let count = is.entries in
    call_taken c.args.self.now audit c.push.new.self book c.args.number c.args.times c.args.said is some
    (omega (arith, few, count)) (rw c.in-Ok.is at (c.push.ensures book.calls is.calls))
