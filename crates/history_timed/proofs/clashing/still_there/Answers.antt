use Rattle.std.proofs.Common.{◌≡◌, ◌∙◌, sym, inl, inr, rules}
use Rattle.std.specs.Prelude.{not, ◌||◌}
use Rattle.std.specs.List.{list_all}
use Rattle.sh_history.specs.declared.checker.Why.TheVariants.{StillThere}
use Rattle.history_timed.specs.declared.call.Call.{Call}
use Rattle.history_timed.specs.Times.{ends_before}
use Rattle.history_timed.specs.Calls.{finds, removes}
use Rattle.history_timed.specs.Clashes.{IsNotGone}
use Rattle.history_timed.proofs.AnswerLemmas.{answered, earlier_line, no_earlier}
use Rattle.history_timed.proofs.IndexLemmas.{all_removals}
use Rattle.history_timed.proofs.clashing.still_there.Goals.{then-is_removed_later, else-is_removed_later}
use Rattle.history_timed.proofs.clashing.still_there.Goals as goal

pub returns-then-gone-key : goal.returns-then-gone-key
returns-then-gone-key c =
    let later = λ (o : Call). ends_before c.args.call.now.times o.times in
    let removed_later : c.is_removed_later.result
    ≡ list_all (λ (o : Call). not (removes c.args.key o.said) || later o) c.args.calls.now =
    (rw c.changes.ensures at c.is_removed_later.ensures) ∙ all_removals c.args.key c.args.calls.now later in
    search rules

pub returns : goal.returns
returns c =
    let kind = finds c.args.key in
    let looked = sym c.earlier_find.ensures in
    let removed = all_removals c.args.key c.args.calls.now (λ (o : Call). ends_before c.args.call.now.times o.times) in
    rw c.with_line.ensures (answered StillThere (IsNotGone c.args.calls.now c.args.key c.args.call.now)
    c.earlier_find.result
    (λ line is. record {
      pass = c.in-Known-Gone.field-0-0;
      says = search rules;
      found = earlier_line kind c.args.calls.now c.args.call.now line (looked ∙ is);
      stays = elim c.if-is_removed_later.branch [
        | then-is_removed_later w ↦ inl (sym removed ∙ (sym (rw c.changes.ensures at c.is_removed_later.ensures)
            ∙ w.if-is_removed_later.true))
        | else-is_removed_later w ↦ inr (sym w.is_used_later-stays.ensures
            ∙ (sym w.stays-is ∙ c.if-not-stays.false))
      ];
    })
    (λ none by is. no_earlier kind c.args.calls.now c.args.call.now (looked ∙ none) by is.found))
