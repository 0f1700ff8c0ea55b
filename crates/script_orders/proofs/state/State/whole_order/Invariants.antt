use Rattle.std.proofs.Common.{◌≡◌, ◌++◌}
use Rattle.script_orders.specs.Reached.{lanes_of}
use Rattle.script_orders.specs.States.{all_left}
use Rattle.script_orders.proofs.state.State.whole_order.Given as goal

abbrev pub invariant-loop-pass : goal.invariant-loop-pass
invariant-loop-pass l = l.order.items ≡ l.self.order.items ++ all_left l.lines (lanes_of l.self) l.pass
