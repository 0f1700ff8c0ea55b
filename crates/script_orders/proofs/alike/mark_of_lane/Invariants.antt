use Rattle.std.proofs.Common.{◌≡◌, take}
use Rattle.std.specs.List.{fold}
use Rattle.script_orders.specs.Marks.{with_step}
use Rattle.script_orders.proofs.alike.mark_of_lane.Given as goal

abbrev pub invariant-loop-step : goal.invariant-loop-step
invariant-loop-step l = l.mark ≡ fold with_step l.initial.mark (take l.step-index l.lane.story.items)
