use Rattle.std.proofs.Common.{◌≡◌, [], refl, sym, ◌∙◌, inl, inr}
use Rattle.std.specs.Io.BufRead.{drop_through}
use Rattle.history_lines.proofs.TextLemmas.{through_none, bad_end, first_line, empty, newline_last}
use Rattle.history_lines.proofs.judging.turn.Goals as goal

pub returns-in_default : goal.returns-in_default
returns-in_default c = λ book rest is reads.
    let none : rest ≡ [] = through_none rest (sym reads ∙ empty _ c.in_default.ensures.cases) in
    rw none (c.end.ensures book c.args.reading.now is)

pub returns-then-last-ne10 : goal.returns-then-last-ne10
returns-then-last-ne10 c = λ book rest is reads. (
  refl,
  inr (rw (c.cut.ensures, reads)
      (bad_end rest c.in-Some.line.now c.in-Some.last.now book (sym reads ∙ c.in-Some.ensures.cases.0)
      c.if-last-ne10.true)),
)

pub returns-in-Ok-None : goal.returns-in-Ok-None
returns-in-Ok-None c = λ book rest is reads.
    let came = rw c.in-Ok-None.field-0-is at (c.in-Ok-None.ensures book is) in (
      c.in-Some.line.now,
      came.0,
      first_line rest c.in-Some.line.now
          (sym reads ∙ newline_last _ _ _ c.in-Some.ensures.cases.0 c.if-last-ne10.false),
      came.1,
      came.2,
    )

pub returns-in-Ok-Some : goal.returns-in-Ok-Some
returns-in-Ok-Some c = λ book rest is reads. inl (
  c.in-Ok-Some.clash,
  refl,
  (
    c.in-Some.line.now,
    first_line rest c.in-Some.line.now
        (sym reads ∙ newline_last _ _ _ c.in-Some.ensures.cases.0 c.if-last-ne10.false),
    (rw c.in-Ok-Some.field-0-is at (c.in-Ok-Some.ensures book is)).0,
  ),
)

pub returns-in-Err-Because : goal.returns-in-Err-Because
returns-in-Err-Because c = λ book rest is reads.
    let first = first_line rest c.in-Some.line.now
    (sym reads ∙ newline_last _ _ _ c.in-Some.ensures.cases.0 c.if-last-ne10.false) in (
      refl,
      inl (record {
        bad = c.in-Some.line.now;
        more = drop_through 10 rest;
        rest_is = first.in_front;
        bad_is = first.is_line;
        fault = rw c.in-Err-Because.field-0-is at (c.in-Err-Because.ensures book is);
      }),
    )
