use Rattle.std.proofs.Common.{◌≢◌, ◌∙◌, [], sym, inr}
use Rattle.std.proofs.lemmas.Bool.{true≢false}
use Rattle.history_lines.specs.Taken.{limits_of}
use Rattle.history_lines.proofs.ReadingLemmas.{followed}
use Rattle.history_lines.proofs.reading.Reading.verdict.Goals as goal

pub returns-clause-some : goal.returns-clause-some
returns-clause-some c = λ book is.
    let a = c.in-Some.audit in
    let some : book.calls ≢ [] = λ none.
    true≢false (sym ((c.is_empty.ensures book.calls is.calls).1 none) ∙ c.if-is_empty.false) in (
      limits_of a,
      (followed c.args.self.now book a is c.in-Some.is).0,
      inr (
        some,
        rw (c.passes.ensures, c.guard_max.ensures, c.all.ensures book.calls is.calls) at c.in_ok-verdict.ensures,
      ),
    )
