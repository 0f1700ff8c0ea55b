use Rattle.std.proofs.Common.{ℕ, ◌<◌, ◌≤◌}
use Rattle.tool_load.specs.Plans.{IsPossible, shape_for}
use Rattle.tool_load.proofs.plan.plan_for.Given as goal

-- no heap is possible with any of the numbers of shards so far
abbrev pub invariant-loop-shards : goal.invariant-loop-shards
invariant-loop-shards g l =
    (n : ℕ) → 1 ≤ n → n < l.shards → IsPossible g.L.KeyLayout.layout (shape_for l.demand n) → ⊥
