use Rattle.history_timed.proofs.AnswerLemmas.{any_answer}
use Rattle.history_timed.proofs.clashing.any_clash.Goals as goal

pub returns : goal.returns
returns c =
    any_answer c.args.passes c.args.guard_max c.args.calls.now c.args.call.now c.first_clash.result
    c.first_clash.ensures.some c.first_clash.ensures.none
