use Rattle.std.proofs.Common.{rc_value, Some, sym, ap, ◌∙◌}
use Rattle.script_orders.specs.declared.lane.Lane.{Lane}
use Rattle.script_orders.specs.Lanes.{did}
use Rattle.script_orders.proofs.Walked.{lane_at, lane_none, none_past, found_at}
use Rattle.script_orders.proofs.state.State.lane.Goals as goal

pub returns-in-Some : goal.returns-in-Some
returns-in-Some c =
    let s = c.args.self.now in
    let shared = c.in-Some.lane.now in
    let look = c.in-Some.ensures.lookup in
    lane_at s.lanes.items rc_value c.args.pass shared
    (found_at c.deref.result.now s.lanes.items c.args.pass shared c.deref.ensures.value look.3.0 look.1)
    ∙ ap (λ (l : Lane). Some (did l)) (sym c.as_ref.ensures)

pub returns-in-None : goal.returns-in-None
returns-in-None c =
    let s = c.args.self.now in
    lane_none s.lanes.items rc_value c.args.pass
    (none_past c.deref.result.now s.lanes.items c.args.pass c.deref.ensures.value c.in-None.ensures.lookup.3)
