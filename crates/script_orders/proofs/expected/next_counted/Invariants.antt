use Rattle.std.proofs.Common.{◌≡◌, ◌≤◌, length}
use Rattle.script_orders.specs.Texts.{lines_counted}
use Rattle.script_orders.proofs.expected.next_counted.Given as goal

abbrev pub invariant-loop-line : goal.invariant-loop-line
invariant-loop-line l = record {
  counted : lines_counted l.rest ≡ lines_counted l.fn.text;
  shorter : length l.rest ≤ length l.fn.text;
}

abbrev pub decreases-loop-line : goal.decreases-loop-line
decreases-loop-line l = length l.rest
