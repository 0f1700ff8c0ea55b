use Rattle.std.proofs.Common.{Some}
use Rattle.history_audit.specs.Noted.{IsNote}
use Rattle.history_audit.proofs.ClashLemmas.{gone_judged, still_there}
use Rattle.history_audit.proofs.clash.of_gone.Goals as goal

pub returns-in-Some-removed : goal.returns-in-Some-removed
returns-in-Some-removed c = λ passes guard_max lines pass key is.
    let known : IsNote lines key (Some c.in-Some.note.now) = rw c.in-Some.is at is in
    gone_judged lines key c.in-Some.note.now known passes guard_max pass c.in-Some-removed.field-0 c.in-Some-removed.is

pub returns-in-None-removed : goal.returns-in-None-removed
returns-in-None-removed c = λ passes guard_max lines pass key is.
    let known : IsNote lines key (Some c.in-Some.note.now) = rw c.in-Some.is at is in
    rw c.with_insert.ensures (still_there lines key c.in-Some.note.now known passes guard_max pass c.in-None-removed.is)
