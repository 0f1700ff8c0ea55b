use Rattle.std.proofs.Common.{Option, sym, subst}
use Rattle.history_timed.specs.Times.{Times}
use Rattle.history_lines.specs.Taken.{limits_of, CameOfAnswer}
use Rattle.history_lines.proofs.reading.Reading.take.Goals as goal

pub returns-in-Some : goal.returns-in-Some
returns-in-Some c = λ book audit is some. subst
    (λ (t : Option Times). CameOfAnswer (limits_of audit) book c.args.number
    (record { times = t; said = c.args.answer.said }) c.take_call.new.self c.take_call.result)
    (sym c.in-Some.is) (c.take_call.ensures book audit is some)
