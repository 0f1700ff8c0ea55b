use Rattle.std.proofs.Common.{◌≡◌, ◌++◌, ◌≤◌}
use Rattle.script_orders.specs.Orders.{lines_within}
use Rattle.script_orders.proofs.state.push_lines.Given as goal

abbrev pub invariant-loop-number : goal.invariant-loop-number
invariant-loop-number l = record {
  added : l.order.items ≡ l.initial.order.items ++ lines_within l.lines l.pass l.from l.number;
  stays : l.to ≤ l.from → l.number ≡ l.from;
}
