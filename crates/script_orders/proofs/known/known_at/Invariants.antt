use Rattle.std.proofs.Common.{◌≡◌, ℕ, ◌<◌, Some, slice_get}
use Rattle.script_orders.specs.declared.known.Known.{Known}
use Rattle.script_orders.specs.Known.{IsSo}
use Rattle.script_orders.specs.Lanes.{did}
use Rattle.script_orders.proofs.known.known_at.Given as goal

abbrev pub invariant-loop-place : goal.invariant-loop-place
invariant-loop-place l = (k : ℕ) (it : Known) → k < l.place → slice_get l.known k ≡ Some it
    → ¬ IsSo l.opening l.changes l.pass (did l.lane) it
