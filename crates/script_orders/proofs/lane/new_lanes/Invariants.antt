use Rattle.std.proofs.Common.{rc_value, ◌≡◌, map}
use Rattle.std.specs.Prelude.{replicate}
use Rattle.script_orders.specs.Lanes.{did, nothing}
use Rattle.script_orders.proofs.lane.new_lanes.Given as goal

abbrev pub invariant-loop : goal.invariant-loop
invariant-loop l = map (λ lane. did (rc_value lane)) l.lanes.items ≡ replicate l.counter nothing
