use Rattle.std.proofs.Common.{ℕ, List}
use Rattle.std.specs.List.{All}
use Rattle.script_orders.specs.Orders.{IsOrder}
use Rattle.script_orders.specs.Reached.{HasPlayed, IsReached, IsOutcome}
use Rattle.script_orders.specs.Steps.{AllOnce}
use Rattle.script_orders.specs.Walks.{IsCovered}
use Rattle.script_orders.proofs.Counted.{Counts}
use Rattle.script_orders.proofs.Cutting.{Met}
use Rattle.script_orders.proofs.walk.explore.Given as goal

abbrev pub decreases-loop-alloc : goal.decreases-loop-alloc
decreases-loop-alloc g l = l.room

abbrev pub invariant-loop-alloc : goal.invariant-loop-alloc
invariant-loop-alloc g l = record {
  played : HasPlayed g.L.KeyLayout.layout l.program l.heap.opening.items l.heap.order.items l.heap.world;
  reached : All (IsReached g.L.KeyLayout.layout l.program) l.level.states.items;
  found : All (IsOutcome g.L.KeyLayout.layout l.program) l.whole.found.items;
  covered : (order : List ℕ) → IsOrder l.program.lines.now l.program.shape.passes order
      → IsCovered g.L.KeyLayout.layout l.program l.level.states.items l.whole.found.items order;
  once : AllOnce l.whole.found.items;
  met : Met g.L.KeyLayout.layout l.program l.level.states.items l.room;
  counts : (steps : ℕ) × Counts g.L.KeyLayout.layout l.program l.level.states.items l.whole.found.items steps;
}
