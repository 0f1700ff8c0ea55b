use Rattle.std.proofs.Common.{rc_value, ◌≡◌, map, take}
use Rattle.std.specs.Prelude.{vec_items}
use Rattle.script_orders.specs.Lanes.{Did, did}
use Rattle.script_orders.proofs.state.State.replies.Given as goal

abbrev pub invariant-loop-lane : goal.invariant-loop-lane
invariant-loop-lane l = map vec_items l.replies.items
    ≡ map (λ (d : Did). d.replies) (map (λ lane. did (rc_value lane)) (take l.lane-index l.self.lanes.items))
