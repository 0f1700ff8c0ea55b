-- The order that is chosen for the replies of a run stays as it is, however the run goes on.
use Rattle.std.specs.Prelude.{◌≡◌, List, [], ◌∷◌, ◌++◌}
use Rattle.sh_history.specs.declared.entry.Entry.{Entry}
use Rattle.sh_step.specs.declared.action.Event.{Event}
use Rattle.sh_key.specs.Layout.{Layout, IsLayout}
use Rattle.sh_core.specs.declared.outcome.Outcome.{Outcome}
use Rattle.sh_core.specs.declared.outcome.Outcome.TheVariants.{Replied}
use Rattle.sh_core.specs.Outcomes.{outcomes}
use Rattle.sh_step.specs.Plans.{Plan, plan_of}
use Rattle.sh_shape.specs.Shape.{Numbers, IsShape, Fits}
use Rattle.sh_history.specs.History.{Legal}

-- the replies among these outcomes, in order
abbrev pub replies_of : List Outcome → List Entry
replies_of [] = []
replies_of (Replied t ∷ rest) = t ∷ replies_of rest
replies_of (_ ∷ rest) = replies_of rest

-- Each run has an order of its replies. It is legal, and has the replies in the order of the steps that decided them.
-- It is the beginning of the order of each longer run
pub record HasStrongOrder (plan : Plan) : Type 0 where
  pub order : List Event → List Entry
  pub legal : (es : List Event) → Legal plan.passes plan.keys.guard_max (order es)
  pub replies : (es : List Event) → order es ≡ replies_of (outcomes plan es)
  pub begins : (es more : List Event) → (later : List Entry) × (order (es ++ more) ≡ order es ++ later)

-- strong linearizability of the core: in each heap whose shape fits its layout
abbrev pub StronglyLinearizable : Type 0
StronglyLinearizable = (layout : Layout) (shape : Numbers) → IsLayout layout → IsShape shape → Fits layout shape
    → HasStrongOrder (plan_of layout shape)
