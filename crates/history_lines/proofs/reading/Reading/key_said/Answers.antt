use Rattle.std.proofs.Common.{ℕ, Option, refl, sym, subst}
use Rattle.history_lines.specs.declared.line.Limits.{Limits}
use Rattle.history_lines.specs.Line.{Gives, key_answered, key_line}
use Rattle.history_lines.proofs.ReadingLemmas.{book_is_blank, followed}
use Rattle.history_lines.proofs.reading.Reading.key_said.Goals as goal

pub returns-in-None : goal.returns-in-None
returns-in-None c = λ book is. rw (book_is_blank c.args.self.now book is c.in-None.is) refl

pub returns-in-Some : goal.returns-in-Some
returns-in-Some c = λ book is.
    let view : Option ℕ → Option ℕ = λ k. k in
    subst (λ (o : Option Limits). Gives view (key_line o c.args.line.now) c.key_answered.result)
    (sym (followed c.args.self.now book c.in-Some.audit is c.in-Some.is).0)
    (subst (λ (p : ℕ). Gives view (key_answered p c.args.line.now) c.key_answered.result) c.passes-passes.ensures
    c.key_answered.ensures)
