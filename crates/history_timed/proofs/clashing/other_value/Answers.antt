use Rattle.std.proofs.Common.{◌≡◌, ◌∙◌, ℕ, List, Some, true, sym, subst, rules}
use Rattle.std.specs.Prelude.{not}
use Rattle.std.specs.List.{list_all}
use Rattle.std.proofs.lemmas.Bool.{true≢false}
use Rattle.std.proofs.lemmas.Option.{same_Some}
use Rattle.sh_history.specs.declared.checker.Why.TheVariants.{OtherValue}
use Rattle.history_timed.specs.declared.call.Call.{Call}
use Rattle.history_timed.specs.Calls.{inserts, returned}
use Rattle.history_timed.specs.Clashes.{HasNoSuchInsert, inserts_value}
use Rattle.history_timed.proofs.AnswerLemmas.{answered, line_at, no_line}
use Rattle.history_timed.proofs.IndexLemmas.{any_insert_line, no_insert_with}
use Rattle.history_timed.proofs.clashing.other_value.Goals as goal

pub returns-then-not-has_no_such_insert : goal.returns-then-not-has_no_such_insert
returns-then-not-has_no_such_insert c = λ by is.
    let calls = c.args.calls.now in
    let says : returned c.args.key c.args.call.now.said ≡ Some c.in-Some.value.now = search rules in
    let none = subst
    (λ (value : List ℕ). list_all (λ (o : Call). not (inserts_value c.args.key value o.said)) calls ≡ true)
    (sym (same_Some c.in-Some.value.now is.value (sym says ∙ is.says))) is.none in
    true≢false (sym none ∙ (sym (no_insert_with c.args.key c.in-Some.value.now calls)
    ∙ (sym (rw c.changes.ensures at c.has_no_such_insert.ensures) ∙ c.if-not-has_no_such_insert.true)))

pub returns : goal.returns
returns c =
    let test = λ (o : Call). inserts c.args.key o.said in
    let looked = sym (any_insert_line c.args.key c.args.calls.now) ∙ sym (rw c.changes-2.ensures at c.any_insert.ensures) in
    rw c.with_line.ensures (answered OtherValue (HasNoSuchInsert c.args.calls.now c.args.key c.args.call.now)
    c.any_insert.result
    (λ line is. record {
      value = c.in-Some.value.now;
      says = search rules;
      none = sym (no_insert_with c.args.key c.in-Some.value.now c.args.calls.now)
          ∙ (sym (rw c.changes.ensures at c.has_no_such_insert.ensures) ∙ c.if-not-has_no_such_insert.false);
      other = line_at test c.args.calls.now line (looked ∙ is);
    })
    (λ none by is. no_line test c.args.calls.now (looked ∙ none) by is.other))
