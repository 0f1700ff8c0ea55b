use Rattle.std.proofs.Common.{◌≡◌, take}
use Rattle.sh_shape.specs.Shape.{IsShape, Fits}
use Rattle.sh_step.specs.Plans.{plan_of}
use Rattle.sh_core.specs.Worlds.{run}
use Rattle.sh_core.specs.Kept.{Represents}
use Rattle.sh_core.proofs.world.run.Given as goal

abbrev pub invariant-loop-event : goal.invariant-loop-event
invariant-loop-event g l = record {
  is_shape : IsShape l.fn.shape;
  fits : Fits g.L.KeyLayout.layout l.fn.shape;
  shape : l.world.shape ≡ l.fn.shape;
  stands : Represents l.world (run (plan_of g.L.KeyLayout.layout l.fn.shape) (take l.event-index l.events));
}
