use Rattle.history_lines.proofs.ReadingLemmas.{answer_came}
use Rattle.history_lines.proofs.reading.Reading.answer.Goals as goal

pub returns-in-Some : goal.returns-in-Some
returns-in-Some c = λ book audit is some same.
    answer_came c.args.self.now c.take.new.self book c.args.number c.args.line.now audit is some c.in-Some.answer
    c.take.result (rw (same, ← c.in-Some.is) c.in_ok-answer.ensures) (c.take.ensures book audit is some)
