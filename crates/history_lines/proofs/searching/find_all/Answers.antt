use Rattle.std.proofs.Common.{◌∙◌}
use Rattle.std.specs.Io.BufRead.{drop_through}
use Rattle.history_lines.proofs.SearchLemmas.{nothing_searched, search_more, search_ends, search_fails}
use Rattle.history_lines.proofs.searching.find_all.Goals as goal

pub loop-number-init : goal.loop-number-init
loop-number-init g c = λ text known.
    (text, known, nothing_searched c.args.only text c.new-search.result c.new-search.ensures)

pub returns-in-Err : goal.returns-in-Err
returns-in-Err g c = λ text known.
    let so_far = c.loop-number.invariant text known in
    let bytes = c.in_ok-next_line.ensures.bytes so_far.0 so_far.1 in
    search_fails c.args.only text c.loop-number.number c.loop-number.search c.turn.new.search so_far.0 so_far.2
    c.in-Err.fault
    (c.in-Err.ensures c.args.only so_far.2.trail so_far.0 so_far.2.follows (c.as_slice.ensures.value ∙ bytes))

pub returns-in-Ok-false : goal.returns-in-Ok-false
returns-in-Ok-false g c = λ text known.
    let so_far = c.loop-number.invariant text known in
    let bytes = c.in_ok-next_line.ensures.bytes so_far.0 so_far.1 in
    let came = rw c.in-Ok-false.field-0-test at (c.in-Ok-false.ensures c.args.only so_far.2.trail so_far.0
    so_far.2.follows (c.as_slice.ensures.value ∙ bytes)) in
    search_ends c.args.only text c.loop-number.number c.loop-number.search c.turn.new.search so_far.0 so_far.2
    c.end.result came.0 (c.end.ensures c.args.only so_far.2.trail came.1)

pub loop-number-preserved : goal.loop-number-preserved
loop-number-preserved g c = λ text known.
    let so_far = c.loop-number.invariant text known in
    let bytes = c.in_ok-next_line.ensures.bytes so_far.0 so_far.1 in (
      drop_through 10 so_far.0,
      c.in_ok-next_line.ensures.rest so_far.0 so_far.1,
      search_more c.args.only text c.loop-number.number c.loop-number.search c.turn.new.search so_far.0 so_far.2
          (rw c.in-Ok-true.field-0-test at (c.in-Ok-true.ensures c.args.only so_far.2.trail so_far.0
          so_far.2.follows (c.as_slice.ensures.value ∙ bytes))),
    )
