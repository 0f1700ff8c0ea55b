use Rattle.std.proofs.Common.{ap, rules, ◌∙◌}
use Rattle.std.proofs.lemmas.List.{take_all}
use Rattle.history_timed.specs.Indexes.{changes_of}
use Rattle.history_timed.proofs.IndexLemmas.{changes_more}
use Rattle.history_timed.proofs.changes.Changes.new.Goals as goal

pub loop-call-preserved : goal.loop-call-preserved
loop-call-preserved c = λ key.
    changes_more key c.args.calls.now c.loop-call.call-index c.call-item.result _ _ (search rules) (search rules)
    (c.loop-call.invariant key) (c.in_ok-take_in.ensures key)

pub returns : goal.returns
returns c = λ key.
    c.loop-call.invariant key ∙ ap (changes_of key) (take_all c.loop-call.call-index c.args.calls.now (search rules))
