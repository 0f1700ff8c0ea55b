use Rattle.std.proofs.Common.{rc_value, ◌≡◌, ◌+◌, ◌*◌, length, take}
use Rattle.std.specs.List.{sum_by}
use Rattle.script_orders.specs.Bytes.{counted, lane_bytes}
use Rattle.script_orders.specs.Lanes.{did}
use Rattle.script_orders.proofs.state.State.bytes.Given as goal

abbrev pub invariant-loop-lane : goal.invariant-loop-lane
invariant-loop-lane l = l.bytes ≡ counted (256 + 12 * length l.self.order.items + 16 * length l.self.changes.items
    + sum_by (λ lane. lane_bytes (did (rc_value lane)) + 8) (take l.lane-index l.self.lanes.items))
