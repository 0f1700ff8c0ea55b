-- The same runs over any table of actions, to say what holds, or fails, if a row is another.
use Rattle.std.specs.Prelude.{List, [], ◌∷◌, Option, Some, None, slice_get}
use Rattle.sh_key.specs.Layout.{Layout, IsLayout}
use Rattle.sh_shape.specs.Shape.{Numbers, IsShape, Fits}
use Rattle.sh_step.specs.declared.action.Action.{Action}
use Rattle.sh_step.specs.declared.action.Event.{Event}
use Rattle.sh_step.specs.declared.body.Body.{Body}
use Rattle.sh_step.specs.Plans.{Plan, plan_of}
use Rattle.sh_step.specs.Rows.{Row}
use Rattle.sh_core.specs.Words.{read}
use Rattle.sh_core.specs.Worlds.{World, apply, open_world}
use Rattle.sh_core.specs.Lists.{PutLists, listed, no_lists}

-- the row of an action, if the part meets its condition
abbrev pub Table : Type 0
Table = Plan → Body → Action → Option Row

unfoldable pub step_by : Table → Plan → World → Event → World
step_by rows plan w e = elim (slice_get w.parts e.pass) [
  | Some p ↦ elim (rows plan p e.action) [ Some m ↦ apply w e.pass m | None ↦ w ]
  | None ↦ w
]

unfoldable pub run_from_by : Table → Plan → World → List Event → World
run_from_by rows plan w [] = w
run_from_by rows plan w (e ∷ es) = run_from_by rows plan (step_by rows plan w e) es

abbrev pub run_by : Table → Plan → List Event → World
run_by rows plan es = run_from_by rows plan (open_world plan) es

unfoldable pub list_step_by : Table → Plan → World → Event → PutLists → PutLists
list_step_by rows plan w e l = elim (slice_get w.parts e.pass) [
  | Some p ↦ elim (rows plan p e.action) [ Some m ↦ listed plan p e.action (read w.words m.place) l | None ↦ l ]
  | None ↦ l
]

unfoldable pub lists_from_by : Table → Plan → World → PutLists → List Event → PutLists
lists_from_by rows plan w l [] = l
lists_from_by rows plan w l (e ∷ es) = lists_from_by rows plan (step_by rows plan w e) (list_step_by rows plan w e l) es

abbrev pub lists_by : Table → Plan → List Event → PutLists
lists_by rows plan es = lists_from_by rows plan (open_world plan) no_lists es

-- P holds after every list of events that this table does, in every heap whose shape fits its layout
abbrev pub AlwaysBy : Table → (Plan → World → PutLists → Type 0) → Type 0
AlwaysBy rows P = (layout : Layout) (shape : Numbers) → IsLayout layout → IsShape shape → Fits layout shape
    → (es : List Event) → P (plan_of layout shape) (run_by rows (plan_of layout shape) es)
    (lists_by rows (plan_of layout shape) es)
