use Rattle.std.proofs.Common.{◌≡◌, ℕ, ◌<◌, Some, slice_get}
use Rattle.script_orders.specs.declared.found.Found.{Found}
use Rattle.script_orders.specs.Walks.{IsSame}
use Rattle.script_orders.proofs.walk.place_of.Given as goal

abbrev pub invariant-loop-place : goal.invariant-loop-place
invariant-loop-place l = (k : ℕ) (f : Found) → k < l.place → slice_get l.found k ≡ Some f → ¬ IsSame f l.new
