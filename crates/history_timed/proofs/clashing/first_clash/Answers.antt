use Rattle.std.proofs.Common.{rules, subst}
use Rattle.std.specs.List.{All}
use Rattle.std.proofs.lemmas.List.{take_all}
use Rattle.history_timed.specs.Clashes.{ClashesForNone}
use Rattle.history_timed.proofs.ListLemmas.{all_more}
use Rattle.history_timed.proofs.clashing.first_clash.Goals as goal

pub loop-why-preserved : goal.loop-why-preserved
loop-why-preserved c =
    all_more (ClashesForNone c.args.passes c.args.guard_max c.args.calls.now c.args.call.now) c.args.reasons.now
    c.loop-why.why-index _ (search rules) (search rules) c.loop-why.invariant c.in_default.ensures

pub returns-clause-none : goal.returns-clause-none
returns-clause-none c =
    subst (All (ClashesForNone c.args.passes c.args.guard_max c.args.calls.now c.args.call.now))
    (take_all c.loop-why.why-index c.args.reasons.now (search rules)) c.loop-why.invariant
