use Rattle.std.proofs.Common.{◌∙◌, sym, rules}
use Rattle.sh_history.specs.declared.checker.Why.TheVariants.{NotNew}
use Rattle.history_timed.specs.Calls.{inserts}
use Rattle.history_timed.specs.Clashes.{IsInsertedTwice, is_another}
use Rattle.history_timed.proofs.AnswerLemmas.{answered, other_line, no_other}
use Rattle.history_timed.proofs.IndexLemmas.{first_insert}
use Rattle.history_timed.proofs.clashing.not_new.Goals as goal

pub returns : goal.returns
returns c =
    let kind = inserts c.args.key in
    let looked = sym (first_insert c.args.key c.args.calls.now (is_another c.args.call.now))
    ∙ sym (rw c.changes.ensures at c.other_insert.ensures) in
    rw c.with_line.ensures (answered NotNew (IsInsertedTwice c.args.calls.now c.args.key c.args.call.now)
    c.other_insert.result
    (λ line is. record {
      says = search rules;
      other = other_line kind c.args.calls.now c.args.call.now line (looked ∙ is);
    })
    (λ none by is. no_other kind c.args.calls.now c.args.call.now (looked ∙ none) by is.other))
