use Rattle.std.proofs.Common.{rc_value, ◌≡◌, map, take}
use Rattle.script_orders.specs.Lanes.{did}
use Rattle.script_orders.proofs.lane.share_lanes.Given as goal

abbrev pub invariant-loop-lane : goal.invariant-loop-lane
invariant-loop-lane l =
    map (λ lane. did (rc_value lane)) l.copies.items ≡ map (λ lane. did (rc_value lane)) (take l.lane-index l.lanes)
