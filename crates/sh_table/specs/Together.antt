-- What is known of passes that ended in one bundle: one run of the core leads to the parts of all of them.
use Rattle.std.specs.Prelude.{List}
use Rattle.sh_key.specs.Layout.{Layout, IsLayout}
use Rattle.sh_history.specs.History.{Legal}
use Rattle.sh_shape.specs.Shape.{IsShape, Fits}
use Rattle.sh_step.specs.declared.action.Event.{Event}
use Rattle.sh_step.specs.Plans.{plan_of}
use Rattle.sh_core.specs.Worlds.{run}
use Rattle.sh_table.specs.declared.view.View.{View}
use Rattle.sh_table.specs.Views.{Each}
use Rattle.sh_table.specs.Reached.{HasOwn, StepsBefore}

-- Some list of events leads to the parts of all passes of the bundle at once, whether they own shards or not. Its log
-- is legal, and its steps are in the orders that the passes heard.
pub record LeadsTogether (layout : Layout) (v : View) : Type 0 where
  pub is_layout : IsLayout layout
  pub is_shape : IsShape v.shape
  pub fits : Fits layout v.shape
  pub events : List Event
  pub own : Each (λ t. HasOwn (plan_of layout v.shape) events t.pass t.own) v.told
  pub steps : Each (StepsBefore (plan_of layout v.shape) events) v.orders
  pub legal : Legal v.shape.passes layout.guard_max (run (plan_of layout v.shape) events).log
