use Rattle.std.proofs.Common.{◌≡◌, ◌++◌, take}
use Rattle.script_orders.specs.Reached.{HasPlayed}
use Rattle.script_orders.proofs.heap.Heap.do_lines.Given as goal

abbrev pub invariant-loop-number : goal.invariant-loop-number
invariant-loop-number g l = record {
  played : HasPlayed g.L.KeyLayout.layout l.program l.self.opening.items l.self.order.items l.self.world;
  order : l.self.order.items ≡ l.initial.self.order.items ++ take l.number-index l.numbers;
}
