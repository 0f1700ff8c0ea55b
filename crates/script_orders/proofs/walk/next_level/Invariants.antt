use Rattle.std.proofs.Common.{◌≡◌, ℕ, ◌+◌, ◌<◌, Some, slice_get, take}
use Rattle.std.specs.List.{All}
use Rattle.script_orders.specs.declared.state.State.{State}
use Rattle.script_orders.specs.Cuts.{AllAfter}
use Rattle.script_orders.specs.Known.{IsKnown}
use Rattle.script_orders.specs.Reached.{HasPlayed, IsReached, IsOutcome}
use Rattle.script_orders.specs.Steps.{AllOnce}
use Rattle.script_orders.specs.Walks.{IsFollowed, HasEnd, KeepsFound, AllRest, Advances}
use Rattle.script_orders.proofs.walk.next_level.Given as goal

abbrev pub invariant-loop-state : goal.invariant-loop-state
invariant-loop-state g l = record {
  played : HasPlayed g.L.KeyLayout.layout l.program l.heap.opening.items l.heap.order.items l.heap.world;
  known : All (IsKnown g.L.KeyLayout.layout l.program) l.known.items;
  reached : All (IsReached g.L.KeyLayout.layout l.program) l.next.states.items;
  found : All (IsOutcome g.L.KeyLayout.layout l.program) l.whole.found.items;
  followed : (place : ℕ) (s : State) → place < l.state-index → slice_get l.level.states.items place ≡ Some s
      → (pass : ℕ) → pass < l.program.shape.passes
      → IsFollowed g.L.KeyLayout.layout l.program l.next.states.items s pass;
  keeps : KeepsFound l.initial.whole.found.items l.whole.found.items;
  ends : (place : ℕ) (s : State) → place < l.state-index → slice_get l.level.states.items place ≡ Some s
      → AllRest g.L.KeyLayout.layout l.program s → HasEnd g.L.KeyLayout.layout l.program l.whole.found.items s;
  steps : (n : ℕ) → AllAfter n l.level.states.items → AllAfter (n + 1) l.next.states.items;
  once : AllOnce l.whole.found.items;
  advances : Advances g.L.KeyLayout.layout l.program (take l.state-index l.level.states.items) l.next.states.items
      l.initial.whole.found.items l.whole.found.items;
}
