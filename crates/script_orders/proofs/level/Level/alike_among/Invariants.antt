use Rattle.std.proofs.Common.{◌≡◌, ℕ, ◌<◌, Some, slice_get}
use Rattle.script_orders.specs.States.{IsAlikeAt}
use Rattle.script_orders.proofs.level.Level.alike_among.Given as goal

abbrev pub invariant-loop-place : goal.invariant-loop-place
invariant-loop-place l = (k place : ℕ) → k < l.place-index → slice_get l.places k ≡ Some place
    → ¬ IsAlikeAt l.self.states.items place l.state
