use Rattle.std.proofs.Common.{rules, ◌≡◌, Some}
use Rattle.sh_history.proofs.Laws.{same_words}
use Rattle.history_audit.specs.Noted.{IsNote}
use Rattle.history_audit.proofs.ClashLemmas.{read_judged}
use Rattle.history_audit.proofs.clash.of_read.Goals as goal

pub returns-else-ne-clause-got : goal.returns-else-ne-clause-got
returns-else-ne-clause-got c = λ passes guard_max lines pass key is.
    let known : IsNote lines key (Some c.in-Some.note.now) = rw c.in-Some.is at is in
    let same : c.in-Some.note.now.value ≡ c.args.value.now = same_words _ _ (search rules) in
    rw c.with_removal.ensures
    (read_judged lines key c.in-Some.note.now known passes guard_max pass c.args.value.now same).0

pub returns-else-ne-clause-seen : goal.returns-else-ne-clause-seen
returns-else-ne-clause-seen c = λ passes guard_max lines pass key is.
    let known : IsNote lines key (Some c.in-Some.note.now) = rw c.in-Some.is at is in
    let same : c.in-Some.note.now.value ≡ c.args.value.now = same_words _ _ (search rules) in
    rw c.with_removal.ensures
    (read_judged lines key c.in-Some.note.now known passes guard_max pass c.args.value.now same).1
