use Rattle.std.proofs.Common.{◌∙◌, refl, sym, rules}
use Rattle.std.proofs.lemmas.Bool.{true≢false}
use Rattle.history_timed.specs.declared.call.Call.{Call}
use Rattle.history_timed.specs.Times.{ends_before}
use Rattle.history_timed.proofs.IndexLemmas.{all_inserts}
use Rattle.history_timed.proofs.clashing.not_issued.Goals.{else-is_found-via-then-is_found+else-is_never_issued}
use Rattle.history_timed.proofs.clashing.not_issued.Goals.{else-is_found-via-else-is_found}
use Rattle.history_timed.proofs.clashing.not_issued.Goals as goal

pub returns-then-is_never_issued : goal.returns-then-is_never_issued
returns-then-is_never_issued c =
    let kept = all_inserts c.args.key c.args.calls.now (λ (o : Call). ends_before c.args.call.now.times o.times) in
    let none = sym kept ∙ (sym (rw c.changes.ensures at c.is_never_issued.ensures) ∙ c.if-is_never_issued.true) in
    rw c.missing.ensures (refl, record { says = search rules; none = none; lacks_other = refl })

pub returns-else-is_found : goal.returns-else-is_found
returns-else-is_found c = λ by is.
    elim c.else-is_found.branch [
      | else-is_found-via-then-is_found+else-is_never_issued w ↦
          let kept = all_inserts c.args.key c.args.calls.now (λ (o : Call). ends_before c.args.call.now.times o.times) in
          true≢false (sym is.none
          ∙ (sym kept ∙ (sym (rw w.changes.ensures at w.is_never_issued.ensures) ∙ w.if-is_never_issued.false)))
      | else-is_found-via-else-is_found w ↦
          let says = is.says in
          search rules
    ]
