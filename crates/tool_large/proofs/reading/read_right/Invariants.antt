use Rattle.std.proofs.Common.{◌≡◌, ◌≤◌}
use Rattle.tool_large.proofs.reading.read_right.Given as goal

abbrev pub invariant-loop-key : goal.invariant-loop-key
invariant-loop-key g l = record {
  heap : (g.R.Reader.caller l.reader).heap ≡ (g.R.Reader.caller l.initial.reader).heap;
  few : l.right ≤ l.key-index;
}
