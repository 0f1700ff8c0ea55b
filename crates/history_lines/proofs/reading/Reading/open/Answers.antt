use Rattle.std.proofs.Common.{Some, refl}
use Rattle.history_lines.proofs.ReadingLemmas.{opens, book_is_blank}
use Rattle.history_lines.proofs.reading.Reading.open.Goals as goal

pub returns-in-Some : goal.returns-in-Some
returns-in-Some c = λ book n is.
    opens c.args.self.now _ book n c.args.line.now (Some c.in-Some.limits) is c.requires
    (rw (← c.in-Some.is) c.in_ok-limits.ensures) (record {
      audit = (rw (c.new.ensures.passes, c.new.ensures.guard_max) refl, c.new.ensures.follows);
      entries = rw (book_is_blank c.args.self.now book is c.requires) at is.entries;
      calls = rw (book_is_blank c.args.self.now book is c.requires) at is.calls;
    })
