use Rattle.std.proofs.Common.{◌∙◌, rules, subst}
use Rattle.std.specs.List.{All}
use Rattle.std.proofs.lemmas.List.{take_all}
use Rattle.history_timed.specs.Clashes.{ClashesWithNone}
use Rattle.history_timed.proofs.ListLemmas.{all_more}
use Rattle.history_timed.proofs.clashing.first_clashing.Goals as goal

pub loop-call-preserved : goal.loop-call-preserved
loop-call-preserved c =
    all_more (ClashesWithNone c.args.passes c.args.guard_max c.args.calls.now) c.calls-call-items.result.now
    c.loop-call.call-index _ (search rules) (search rules) c.loop-call.invariant c.in_default.ensures

pub returns-clause-none : goal.returns-clause-none
returns-clause-none c =
    subst (All (ClashesWithNone c.args.passes c.args.guard_max c.args.calls.now))
    (take_all c.loop-call.call-index c.calls-call-items.result.now (search rules) ∙ c.calls-call-items.ensures)
    c.loop-call.invariant
