use Rattle.std.proofs.Common.{sym}
use Rattle.history_lines.proofs.reading.Reading.line.Goals as goal

pub returns-in-Some : goal.returns-in-Some
returns-in-Some c = λ book is. c.answer.ensures book c.in-Some.audit is c.in-Some.is (sym c.passes-passes.ensures)

pub returns-in-None : goal.returns-in-None
returns-in-None c = λ book is. c.open.ensures book c.args.number is
