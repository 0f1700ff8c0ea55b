use Rattle.std.proofs.Common.{◌≡◌, ℕ, ◌≤◌, ◌<◌, false}
use Rattle.sh_step.specs.Plans.{plan_of}
use Rattle.script_orders.specs.Reached.{is_due}
use Rattle.script_orders.proofs.next.next_line.Given as goal

abbrev pub invariant-loop-number : goal.invariant-loop-number
invariant-loop-number g l = (n : ℕ) → l.behind ≤ n → n < l.number
    → is_due (plan_of g.L.KeyLayout.layout l.world.shape) l.world.parts l.lines l.pass n ≡ false
