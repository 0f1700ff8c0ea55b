use Rattle.std.proofs.Common.{refl, ◌∙◌}
use Rattle.history_audit.proofs.TakeLemmas.{takes_insert, takes_gone, takes_crowded, takes_seen, no_note}
use Rattle.history_audit.proofs.audit.Audit.note.Goals as goal

pub returns-in_ok-insert-in-Insert-clause-ok : goal.returns-in_ok-insert-in-Insert-clause-ok
returns-in_ok-insert-in-Insert-clause-ok c = λ lines is. rw c.in-Insert.is (λ allowed.
    let none = no_note c.args.self.now lines c.in-Insert.key is allowed in
    let put = c.in_ok-insert-in-Insert.ensures in
    takes_insert c.args.self.now _ lines c.args.line is c.in-Insert.field-0 c.in-Insert.key c.in-Insert.value allowed
    (record { same = record { passes = refl; guard_max = refl }; notes = λ q. rw (← c.new.ensures) (put.updates.0 q) })
    refl none (rw (put.old ∙ none) at put.len))

pub returns-in_ok-note_got-in-Got-clause-ok : goal.returns-in_ok-note_got-in-Got-clause-ok
returns-in_ok-note_got-in-Got-clause-ok c = λ lines is. rw c.in-Got.is (λ allowed.
    c.in_ok-note_got-in-Got.ensures.ok lines c.args.line c.in-Got.field-2 is allowed)

pub returns-in-Gone-clause-ok : goal.returns-in-Gone-clause-ok
returns-in-Gone-clause-ok c = λ lines is. rw c.in-Gone.is (λ allowed.
    takes_gone c.args.self.now lines c.args.line c.in-Gone.field-0 c.in-Gone.field-1 is allowed)

pub returns-in-Crowded-clause-ok : goal.returns-in-Crowded-clause-ok
returns-in-Crowded-clause-ok c = λ lines is. rw c.in-Crowded.is (λ allowed.
    takes_crowded c.args.self.now lines c.args.line c.in-Crowded.field-0 c.in-Crowded.field-1 is allowed)

pub returns-in-Removed-clause-ok : goal.returns-in-Removed-clause-ok
returns-in-Removed-clause-ok c = λ lines is. rw c.in-Removed.is (λ allowed.
    c.note_removed.ensures.ok lines c.in-Removed.field-0 is allowed)

pub returns-in_ok-note_released-in-Released-clause-ok : goal.returns-in_ok-note_released-in-Released-clause-ok
returns-in_ok-note_released-in-Released-clause-ok c = λ lines is. rw c.in-Released.is (λ allowed.
    c.in_ok-note_released-in-Released.ensures.ok lines c.args.line is allowed)

pub returns-in-Seen-clause-ok : goal.returns-in-Seen-clause-ok
returns-in-Seen-clause-ok c = λ lines is. rw c.in-Seen.is (λ allowed.
    takes_seen c.args.self.now lines c.args.line c.in-Seen.field-0 c.in-Seen.field-1 c.in-Seen.field-2 is allowed)
