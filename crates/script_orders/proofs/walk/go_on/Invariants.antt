use Rattle.std.proofs.Common.{◌≡◌, ℕ, ◌+◌, ◌<◌, false}
use Rattle.std.specs.List.{All}
use Rattle.script_orders.specs.declared.state.State.{State}
use Rattle.script_orders.specs.Cuts.{steps_done, AllAfter}
use Rattle.script_orders.specs.Known.{IsKnown}
use Rattle.script_orders.specs.Reached.{HasPlayed, IsReached, Rests}
use Rattle.script_orders.specs.States.{HasAlike}
use Rattle.script_orders.specs.Walks.{IsFollowed, AllRest, GoesFrom}
use Rattle.script_orders.proofs.walk.go_on.Given as goal

abbrev pub invariant-loop-pass : goal.invariant-loop-pass
invariant-loop-pass g l = record {
  played : HasPlayed g.L.KeyLayout.layout l.program l.heap.opening.items l.heap.order.items l.heap.world;
  known : All (IsKnown g.L.KeyLayout.layout l.program) l.known.items;
  all : All (IsReached g.L.KeyLayout.layout l.program) l.next.states.items;
  rests : l.goes_on ≡ false → (a : ℕ) → a < l.pass → Rests g.L.KeyLayout.layout l.program l.state a;
  keeps : (t : State) → HasAlike l.initial.next.states.items t → HasAlike l.next.states.items t;
  followed : (a : ℕ) → a < l.pass → IsFollowed g.L.KeyLayout.layout l.program l.next.states.items l.state a;
  ends : AllRest g.L.KeyLayout.layout l.program l.state → l.goes_on ≡ false;
  from : GoesFrom g.L.KeyLayout.layout l.program l.pass l.initial.next.states.items l.next.states.items l.state
      l.goes_on;
  steps : (n : ℕ) → steps_done l.state ≡ n → AllAfter (n + 1) l.initial.next.states.items
      → AllAfter (n + 1) l.next.states.items;
}
