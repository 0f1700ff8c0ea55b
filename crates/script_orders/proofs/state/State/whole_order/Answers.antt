use Rattle.std.proofs.Common.{ap, ◌∙◌}
use Rattle.std.specs.Prelude.{vec_items}
use Rattle.script_orders.specs.Lanes.{did}
use Rattle.script_orders.specs.Reached.{lanes_of}
use Rattle.script_orders.proofs.Playing.{left_lines, left_past}
use Rattle.script_orders.proofs.state.State.whole_order.Goals as goal
use Rattle.script_orders.proofs.state.State.whole_order.Goals.{in-Some+in_ok-push_lines, in_default}

pub loop-pass-preserved : goal.loop-pass-preserved
loop-pass-preserved c =
    let s = c.args.self.now in
    let lines = c.args.lines.now in
    let pass = c.loop-pass.pass in
    let old = c.loop-pass.order.items in
    elim c.match-lane.branch [
      | in-Some+in_ok-push_lines w ↦
          ap vec_items w.order-is
          ∙ left_lines lines (lanes_of s) pass (did w.in-Some.lane.now) s.order.items old w.push_lines.new.order.items
          w.in-Some.ensures c.loop-pass.invariant w.in_ok-push_lines.ensures
      | in_default w ↦
          ap vec_items w.order-is
          ∙ left_past lines (lanes_of s) pass s.order.items old w.in_default.ensures c.loop-pass.invariant
    ]
