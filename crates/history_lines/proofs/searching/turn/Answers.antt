use Rattle.std.proofs.Common.{refl, sym, ◌∙◌, inl, inr}
use Rattle.std.specs.Io.BufRead.{drop_through}
use Rattle.history_lines.proofs.TextLemmas.{through_none, bad_end, first_line, empty, newline_last}
use Rattle.history_lines.proofs.searching.turn.Goals as goal

pub returns-in_default : goal.returns-in_default
returns-in_default c = λ only trail rest is reads.
    (through_none rest (sym reads ∙ empty _ c.in_default.ensures.cases), is)

pub returns-then-last-ne10 : goal.returns-then-last-ne10
returns-then-last-ne10 c = λ only trail rest is reads. (
  refl,
  inr (rw (c.cut.ensures, reads)
      (bad_end rest c.in-Some.line.now c.in-Some.last.now trail.book (sym reads ∙ c.in-Some.ensures.cases.0)
      c.if-last-ne10.true)),
)

pub returns-in-Ok : goal.returns-in-Ok
returns-in-Ok c = λ only trail rest is reads.
    let came = rw c.in-Ok.is at (c.line.ensures only trail is) in (
      c.in-Some.line.now,
      came.0,
      first_line rest c.in-Some.line.now
          (sym reads ∙ newline_last _ _ _ c.in-Some.ensures.cases.0 c.if-last-ne10.false),
      came.1,
      came.2,
    )

pub returns-in-Err-Because : goal.returns-in-Err-Because
returns-in-Err-Because c = λ only trail rest is reads.
    let first = first_line rest c.in-Some.line.now
    (sym reads ∙ newline_last _ _ _ c.in-Some.ensures.cases.0 c.if-last-ne10.false) in (
      refl,
      inl (record {
        bad = c.in-Some.line.now;
        more = drop_through 10 rest;
        rest_is = first.in_front;
        bad_is = first.is_line;
        fault = rw c.in-Err-Because.field-0-is at (c.in-Err-Because.ensures only trail is);
      }),
    )
