use Rattle.std.proofs.Common.{◌∙◌, sym, subst}
use Rattle.std.specs.Prelude.{IfOk}
use Rattle.std.proofs.lemmas.Option.{none-some, same_Some}
use Rattle.history_timed.specs.Verdicts.{AreFindings}
use Rattle.history_lines.specs.declared.line.Limits.{Limits}
use Rattle.history_lines.specs.Taken.{limits_of}
use Rattle.history_lines.proofs.ReadingLemmas.{book_is_blank, followed}
use Rattle.history_lines.proofs.reading.Reading.findings.Goals as goal

pub returns-in-None : goal.returns-in-None
returns-in-None c = λ book limits is some.
    absurd (none-some limits (rw (book_is_blank c.args.self.now book is c.in-None.is) at some))

pub returns-in-Some : goal.returns-in-Some
returns-in-Some c = λ book limits is some.
    let a = c.in-Some.audit in
    let same = same_Some (limits_of a) limits (sym (followed c.args.self.now book a is c.in-Some.is).0 ∙ some) in
    subst (λ (l : Limits). IfOk c.findings.result
    (λ found. AreFindings l.passes l.guard_max book.calls book.calls found.items)) same
    (rw (c.passes.ensures, c.guard_max.ensures, c.all.ensures book.calls is.calls) at c.findings.ensures)
