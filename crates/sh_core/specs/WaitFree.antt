-- Wait freedom: what a pass has begun ends within a number of its own steps, whatever the others do meanwhile.
use Rattle.std.specs.Prelude.{ℕ, ◌≡◌, ◌≢◌, ◌+◌, ◌≤◌, List, [], ◌∷◌, ◌++◌, Some, slice_get, length}
use Rattle.sh_slots.specs.declared.hand.Hand.TheVariants.{Idle}
use Rattle.sh_step.specs.declared.action.Event.{Event}
use Rattle.sh_step.specs.declared.body.Body.{Body}
use Rattle.sh_step.specs.Ends.{to_end}
use Rattle.sh_step.specs.Plans.{Plan}
use Rattle.sh_core.specs.Trails.{trail_of}
use Rattle.sh_core.specs.Worlds.{run}

-- pass a has begun something
pub record IsBusyAfter (plan : Plan) (es : List Event) (a : ℕ) : Type 0 where
  pub body : Body
  pub at : slice_get (run plan es).parts a ≡ Some body
  pub busy : body.hand ≢ Idle

-- the pass is busy after es, and after each of these events except the last
abbrev pub BusyUntil : Plan → List Event → List Event → ℕ → Type 0
BusyUntil plan es [] a = Unit {0}
BusyUntil plan es (e ∷ fs) a = IsBusyAfter plan es a × BusyUntil plan (es ++ e ∷ []) fs a

-- While a pass is busy it does at most as many steps of its own as `to_end` of its hand says, however many events of
-- other passes come between
abbrev pub WaitFree : Type 0
WaitFree = (plan : Plan) (es fs : List Event) (a : ℕ) (p u : Body) → slice_get (run plan es).parts a ≡ Some p
    → slice_get (run plan (es ++ fs)).parts a ≡ Some u → BusyUntil plan es fs a
    → length (trail_of plan (es ++ fs) a) + to_end u.hand ≤ length (trail_of plan es a) + to_end p.hand
