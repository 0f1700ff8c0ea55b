use Rattle.std.proofs.Common.{arith}
use Rattle.history_audit.proofs.audit.Audit.clash.Goals as goal

pub returns-in-Insert : goal.returns-in-Insert
returns-in-Insert c = λ lines is. rw c.in-Insert.is
    (c.of_insert.ensures c.args.self.now.passes c.args.self.now.guard_max lines
    c.in-Insert.field-0 c.in-Insert.key c.in-Insert.field-2
    (rw c.get.ensures.value (is.notes c.in-Insert.key)))

pub returns-in-Got : goal.returns-in-Got
returns-in-Got c = λ lines is. rw c.in-Got.is
    (c.of_read.ensures.got c.args.self.now.passes c.args.self.now.guard_max lines
    c.in-Got.field-0 c.in-Got.key
    (rw c.get-in-Got.ensures.value (is.notes c.in-Got.key)))

pub returns-in-Seen : goal.returns-in-Seen
returns-in-Seen c = λ lines is. rw c.in-Seen.is
    (c.of_read-in-Seen.ensures.seen c.args.self.now.passes c.args.self.now.guard_max lines
    c.in-Seen.field-0 c.in-Seen.key
    (rw c.get-in-Seen.ensures.value (is.notes c.in-Seen.key)))

pub returns-in-Gone : goal.returns-in-Gone
returns-in-Gone c = λ lines is. rw c.in-Gone.is
    (c.of_gone.ensures c.args.self.now.passes c.args.self.now.guard_max lines
    c.in-Gone.field-0 c.in-Gone.key
    (rw c.get-in-Gone.ensures.value (is.notes c.in-Gone.key)))

pub returns-in-Crowded : goal.returns-in-Crowded
returns-in-Crowded c = λ lines is. rw c.in-Crowded.is
    (c.of_crowded.ensures lines c.in-Crowded.field-0 c.in-Crowded.key
    (rw c.get-in-Crowded.ensures.value (is.notes c.in-Crowded.key)))

pub returns-in-Removed : goal.returns-in-Removed
returns-in-Removed c = λ lines is. rw c.in-Removed.is
    (c.of_removed.ensures c.args.self.now.passes c.args.self.now.guard_max lines
    c.in-Removed.field-0 c.in-Removed.key
    (rw c.get-in-Removed.ensures.value (is.notes c.in-Removed.key)))

pub returns-in-Released : goal.returns-in-Released
returns-in-Released c = λ lines is. rw c.in-Released.is
    (c.of_released.ensures c.args.self.now.passes c.args.self.now.guard_max lines
    c.in-Released.pass c.in-Released.key
    (let counts = is.holds c.in-Released.pass c.in-Released.key in omega (arith, c.count.ensures)))
