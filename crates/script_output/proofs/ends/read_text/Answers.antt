use Rattle.std.proofs.Common.{arith}
use Rattle.script_output.proofs.EndLemmas.{ends_here, full}
use Rattle.script_output.proofs.ends.read_text.Goals as goal

pub returns-then-branch-eq0-clause-text : goal.returns-then-branch-eq0-clause-text
returns-then-branch-eq0-clause-text g c =
    let left = g.R.Read.remaining in
    ends_here (left c.args.reader.now) (left c.loop-text.reader) (left c.read_piece.new.reader) c.loop-text.text.items
    c.read_piece.new.text.items c.in_ok-read_piece.field-0 c.min-most.result 1048577
    c.loop-text.invariant.taken c.in_ok-read_piece.ensures.ok (omega arith) (omega (arith, c.loop-text.text.ok.0))

pub returns-clause-text : goal.returns-clause-text
returns-clause-text g c =
    let left = g.R.Read.remaining in
    full (left c.args.reader.now) (left c.loop-text.reader) c.loop-text.text.items 1048577 c.loop-text.invariant.taken
    (omega (arith, c.loop-text.text.ok.0))
