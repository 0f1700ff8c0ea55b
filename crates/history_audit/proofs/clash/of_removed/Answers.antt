use Rattle.std.proofs.Common.{Some}
use Rattle.history_audit.specs.Noted.{IsNote}
use Rattle.history_audit.proofs.ClashLemmas.{removed_judged}
use Rattle.history_audit.proofs.clash.of_removed.Goals as goal

pub returns-in-Some : goal.returns-in-Some
returns-in-Some c = λ passes guard_max lines pass key is.
    let known : IsNote lines key (Some c.in-Some.note.now) = rw c.in-Some.is at is in
    rw c.with_removal.ensures (removed_judged lines key c.in-Some.note.now known passes guard_max pass)
