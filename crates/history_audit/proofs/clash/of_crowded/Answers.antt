use Rattle.std.proofs.Common.{rules, ◌+◌, ◌-◌, ◌≤◌, Some, refl}
use Rattle.history_audit.specs.Noted.{IsNote}
use Rattle.history_audit.proofs.ClashLemmas.{crowded_after, is_issued, not_removed, held_on}
use Rattle.history_audit.proofs.clash.of_crowded.Goals as goal

pub returns-in-Some-removed : goal.returns-in-Some-removed
returns-in-Some-removed c = λ lines pass key is.
    let known : IsNote lines key (Some c.in-Some.note.now) = rw c.in-Some.is at is in
    rw c.with_removal.ensures
    (crowded_after lines key c.in-Some.note.now known c.args.passes c.args.guard_max pass c.in-Some-removed.field-0
    c.in-Some-removed.is)

pub returns-then-is_crowded : goal.returns-then-is_crowded
returns-then-is_crowded c = λ lines pass key is.
    let known : IsNote lines key (Some c.in-Some.note.now) = rw c.in-Some.is at is in (
      is_issued lines key c.in-Some.note.now known,
      not_removed lines key c.in-Some.note.now known c.in-None-removed.is,
      rw (← held_on lines key c.in-Some.note.now known) (search rules),
    )

pub returns-else-is_crowded : goal.returns-else-is_crowded
returns-else-is_crowded c = λ lines pass key is.
    let known : IsNote lines key (Some c.in-Some.note.now) = rw c.in-Some.is at is in
    let few : (c.in-Some.note.now.got - c.in-Some.note.now.released) + c.args.passes ≤ c.args.guard_max =
    search (rules, c.if-is_crowded.ensures) in
    rw c.missing-else-is_crowded.ensures (record {
      is_why = (
        is_issued lines key c.in-Some.note.now known,
        not_removed lines key c.in-Some.note.now known c.in-None-removed.is,
        rw (← held_on lines key c.in-Some.note.now known) few,
      );
      by = refl;
    })
