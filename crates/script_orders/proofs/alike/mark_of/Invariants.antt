use Rattle.std.proofs.Common.{rc_value, ◌≡◌, map, take}
use Rattle.std.specs.List.{fold}
use Rattle.script_orders.specs.Lanes.{did}
use Rattle.script_orders.specs.Marks.{with_lane}
use Rattle.script_orders.proofs.alike.mark_of.Given as goal

abbrev pub invariant-loop-lane : goal.invariant-loop-lane
invariant-loop-lane l = l.mark
    ≡ fold with_lane 0xcbf2_9ce4_8422_2325 (map (λ lane. did (rc_value lane)) (take l.lane-index l.state.lanes.items))
