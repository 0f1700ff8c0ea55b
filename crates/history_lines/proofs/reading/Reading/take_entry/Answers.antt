use Rattle.std.proofs.Common.{rules}
use Rattle.history_lines.proofs.ReadingLemmas.{followed, entry_taken}
use Rattle.history_lines.proofs.reading.Reading.take_entry.Goals as goal

pub returns-in-None : goal.returns-in-None
returns-in-None c = λ book audit is some.
    let a = c.in-Some-audit.audit in
    let follows = followed c.args.self.now book a is c.in-Some-audit.is in
    entry_taken a c.push.new.self c.args.self.now.calls book c.args.number c.args.self.now.entries c.in-Some.entries
    c.args.said follows c.push.ensures.passes c.push.ensures.guard_max
    (rw (c.entry-entry.ensures book.lines follows.1) at (rw c.in-None.is at
    (c.in_ok-push.ensures.taken book.lines follows.1))) is.entries (search rules) is.calls
    ((c.is_empty.ensures book.calls is.calls).0 (search rules))
