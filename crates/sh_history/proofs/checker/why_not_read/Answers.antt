use Rattle.std.proofs.Common.{rules, ◌≡◌, ◌∙◌, ap, sym, Some}
use Rattle.sh_history.proofs.Laws.{same_words}
use Rattle.sh_history.proofs.checker.why_not_read.Goals as goal

pub returns-then-is_removed : goal.returns-then-is_removed
returns-then-is_removed c =
    let same : c.in-Some.issued.now ≡ c.args.value.now = same_words _ _ (search rules) in
    (sym c.in-Some.ensures ∙ ap Some same, sym c.if-is_removed.ensures)

pub returns-else-is_removed : goal.returns-else-is_removed
returns-else-is_removed c =
    let same : c.in-Some.issued.now ≡ c.args.value.now = same_words _ _ (search rules) in
    (sym c.in-Some.ensures ∙ ap Some same, sym c.if-is_removed.ensures)
