use Rattle.std.proofs.Common.{◌≡◌, ◌≤◌}
use Rattle.tool_large.proofs.removing.remove_each.Given as goal

abbrev pub invariant-loop-turn : goal.invariant-loop-turn
invariant-loop-turn g l = record {
  heap : (g.R.Reader.caller l.reader).heap ≡ (g.R.Reader.caller l.initial.reader).heap;
  few : l.removed ≤ l.turn;
}
