-- A key that steps of a pass missed is not in the map at a moment of the run.
use Rattle.std.specs.Prelude.{◌≡◌, ◌≢◌, ℕ, ◌≤◌, true, List, ◌++◌, length, Some, None, IsSome}
use Rattle.sh_step.specs.declared.action.Action.TheVariants as action
use Rattle.sh_core.specs.AtomicMap.{map_of}
use Rattle.sh_step.specs.declared.action.Event.{Event}
use Rattle.sh_step.specs.declared.footstep.Footstep.{Footstep}
use Rattle.sh_slots.specs.declared.hand.KeyRef.{KeyRef}
use Rattle.sh_key.specs.Layout.{Layout, IsLayout}
use Rattle.sh_step.specs.Moves.{place_named}
use Rattle.sh_step.specs.Plans.{Plan, plan_of}
use Rattle.sh_shape.specs.Shape.{Numbers, IsShape, Fits}
use Rattle.sh_core.specs.Trails.{trail_of}
use Rattle.sh_core.specs.Worlds.{run}
use Rattle.sh_history.specs.History.{is_removed}
use Rattle.sh_pass.specs.Missing.{StepMisses}
use Rattle.sh_table.specs.declared.view.View.{View}
use Rattle.sh_table.specs.Views.{HeardOfInsert}

-- a moment of the run at which pass a has done at least these first steps, and the key is not in the map
pub record IsAbsentOnce (plan : Plan) (es : List Event) (a : ℕ) (before : List Footstep) (k : ℕ) : Type 0 where
  pub early : List Event
  pub late : List Event
  pub events : es ≡ early ++ late
  pub after : length before ≤ length (trail_of plan early a)
  pub absent : map_of plan (run plan early).words k ≡ None

-- in each run in which pass a did these steps and then those, there is such a moment for a key that the latter missed
abbrev pub MissedIsAbsent : Type 0
MissedIsAbsent = (plan : Plan) (es : List Event) (a : ℕ) (before new : List Footstep) (v : View) (k : ℕ) (n : KeyRef)
    → trail_of plan es a ≡ before ++ new → place_named plan k ≡ Some n → StepMisses v k n new
    → IsAbsentOnce plan es a before k

-- the key is in the map at each moment from the one on at which pass a has done these first steps
abbrev pub Stays : Plan → List Event → ℕ → List Footstep → ℕ → Type 0
Stays plan es a before k = (early late : List Event) → es ≡ early ++ late
    → length before ≤ length (trail_of plan early a) → IsSome (map_of plan (run plan early).words k)

-- so it is not missed
abbrev pub StayingIsMet : Type 0
StayingIsMet = (plan : Plan) (es : List Event) (a : ℕ) (before new : List Footstep) (v : View) (k : ℕ) (n : KeyRef)
    → trail_of plan es a ≡ before ++ new → place_named plan k ≡ Some n → Stays plan es a before k
    → ¬ StepMisses v k n new

-- a moment of the run at which pass a has done at least these first steps, and the key was removed before
pub record IsRemovedOnce (plan : Plan) (es : List Event) (a : ℕ) (before : List Footstep) (k : ℕ) : Type 0 where
  pub early : List Event
  pub late : List Event
  pub events : es ≡ early ++ late
  pub after : length before ≤ length (trail_of plan early a)
  pub removed : is_removed (run plan early).log k ≡ true

-- if a load missed a key whose insert the pass did or heard of, there is such a moment
abbrev pub HeardIsRemoved : Type 0
HeardIsRemoved = (layout : Layout) (shape : Numbers) → IsLayout layout → IsShape shape → Fits layout shape
    → (es : List Event) (a : ℕ) (before new : List Footstep) (v : View) (k : ℕ) (n : KeyRef)
    → let plan = plan_of layout shape in trail_of plan es a ≡ before ++ new → place_named plan k ≡ Some n
    → (m : StepMisses v k n new) → m.action ≢ action.EnterGet k → HeardOfInsert v k → IsRemovedOnce plan es a before k
