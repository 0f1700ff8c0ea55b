use Rattle.std.proofs.Common.{◌∙◌}
use Rattle.std.specs.Io.BufRead.{drop_through}
use Rattle.history_lines.proofs.JudgingLemmas.{nothing_read, read_more, is_verdict, is_fault}
use Rattle.history_lines.proofs.judging.judge.Goals as goal

pub loop-number-init : goal.loop-number-init
loop-number-init g c = λ text known.
    (text, known, nothing_read text c.new-reading.result c.new-reading.ensures)

pub returns-in-Ok-Some : goal.returns-in-Ok-Some
returns-in-Ok-Some g c = λ text known.
    let so_far = c.loop-number.invariant text known in
    let bytes = c.in_ok-next_line.ensures.bytes so_far.0 so_far.1 in
    is_verdict text c.loop-number.number c.loop-number.reading c.turn.new.reading so_far.0 so_far.2
    c.in-Ok-Some.verdict
    (rw c.in-Ok-Some.field-0-is at (c.in-Ok-Some.ensures so_far.2.book so_far.0 so_far.2.taken
    (c.as_slice.ensures.value ∙ bytes)))

pub returns-in-Err : goal.returns-in-Err
returns-in-Err g c = λ text known.
    let so_far = c.loop-number.invariant text known in
    let bytes = c.in_ok-next_line.ensures.bytes so_far.0 so_far.1 in
    is_fault text c.loop-number.number c.loop-number.reading c.turn.new.reading so_far.0 so_far.2 c.in-Err.fault
    (c.in-Err.ensures so_far.2.book so_far.0 so_far.2.taken (c.as_slice.ensures.value ∙ bytes))

pub loop-number-preserved : goal.loop-number-preserved
loop-number-preserved g c = λ text known.
    let so_far = c.loop-number.invariant text known in
    let bytes = c.in_ok-next_line.ensures.bytes so_far.0 so_far.1 in (
      drop_through 10 so_far.0,
      c.in_ok-next_line.ensures.rest so_far.0 so_far.1,
      read_more text c.loop-number.number c.loop-number.reading c.turn.new.reading so_far.0 so_far.2
          (rw c.in-Ok-None.field-0-is at (c.in-Ok-None.ensures so_far.2.book so_far.0 so_far.2.taken
          (c.as_slice.ensures.value ∙ bytes))),
    )
