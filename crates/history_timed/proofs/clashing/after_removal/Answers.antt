use Rattle.std.proofs.Common.{◌≡◌, ◌∙◌, true, sym, rules, inl, inr}
use Rattle.sh_history.specs.declared.checker.Why.TheVariants.{AfterRemoval}
use Rattle.history_timed.specs.declared.call.Call.{Call}
use Rattle.history_timed.specs.Times.{ends_before}
use Rattle.history_timed.specs.Calls.{uses, removes}
use Rattle.history_timed.specs.Clashes.{IsOfRemoved, is_another}
use Rattle.history_timed.proofs.AnswerLemmas.{answered, other_line, no_other, earlier_line, no_earlier, not_both}
use Rattle.history_timed.proofs.IndexLemmas.{first_removal}
use Rattle.history_timed.proofs.clashing.after_removal.Goals as goal

pub returns-then-uses : goal.returns-then-uses
returns-then-uses c =
    let kind = removes c.args.key in
    let earlier = λ (o : Call). ends_before o.times c.args.call.now.times in
    let looked = sym (first_removal c.args.key c.args.calls.now earlier)
    ∙ sym (rw c.changes.ensures at c.earlier_removal.ensures) in
    let used : uses c.args.key c.args.call.now.said ≡ true = search rules in
    rw c.with_line.ensures (answered AfterRemoval (IsOfRemoved c.args.calls.now c.args.key c.args.call.now)
    c.earlier_removal.result
    (λ line is. inl (used, earlier_line kind c.args.calls.now c.args.call.now line (looked ∙ is)))
    (λ none by is. elim is [
      | inl late ↦ no_earlier kind c.args.calls.now c.args.call.now (looked ∙ none) by late.1
      | inr twice ↦ not_both c.args.key c.args.call.now.said used twice.0
    ]))

pub returns-then-removes : goal.returns-then-removes
returns-then-removes c =
    let kind = removes c.args.key in
    let looked = sym (first_removal c.args.key c.args.calls.now (is_another c.args.call.now))
    ∙ sym (rw c.changes-then-removes.ensures at c.other_removal.ensures) in
    let removed : removes c.args.key c.args.call.now.said ≡ true = search rules in
    rw c.with_line-then-removes.ensures (answered AfterRemoval
    (IsOfRemoved c.args.calls.now c.args.key c.args.call.now) c.other_removal.result
    (λ line is. inr (removed, other_line kind c.args.calls.now c.args.call.now line (looked ∙ is)))
    (λ none by is. elim is [
      | inl late ↦ not_both c.args.key c.args.call.now.said late.0 removed
      | inr twice ↦ no_other kind c.args.calls.now c.args.call.now (looked ∙ none) by twice.1
    ]))
