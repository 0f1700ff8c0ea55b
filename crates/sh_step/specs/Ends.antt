-- How far a pass is from the end of what it has begun, by its hand only.
use Rattle.std.specs.Prelude.{ℕ, ◌≡◌, ◌≢◌, ◌+◌, ◌-◌, ◌<◌, cond, length, Option, Some}
use Rattle.sh_slots.specs.declared.hand.Hand.{Hand}
use Rattle.sh_slots.specs.declared.hand.Hand.TheVariants.{Idle, Removing, Leaving, Finishing, ToPut, Tying, Ringing}
use Rattle.sh_slots.specs.declared.hand.Hand.TheVariants.{RingTying, Filling, Looking}
use Rattle.sh_slots.specs.declared.hand.Sight.{Sight}
use Rattle.sh_slots.specs.declared.hand.Sight.TheVariants.{Bare, Classed, Measured}
use Rattle.sh_slots.specs.declared.hand.KeyRef.{KeyRef}
use Rattle.sh_step.specs.declared.action.Action.{Action}
use Rattle.sh_step.specs.declared.body.Body.{Body}
use Rattle.sh_step.specs.Conditions.{Named}
use Rattle.sh_step.specs.Plans.{Plan}
use Rattle.sh_step.specs.Moves.{row}
use Rattle.sh_step.specs.Rows.{Row}

-- the greatest number of loads that a look has left, with the last one, of the state
abbrev pub looks_left : Sight → ℕ
looks_left Bare = 19
looks_left (Classed c) = 18
looks_left (Measured c m v) = 16 - length v + 1

-- The greatest number of its own steps that are left until the hand is idle. An end has as many more as a look, of
-- which it may do none; so up to 18 loads come before the five steps of a Finish and of a put that rings
abbrev pub to_end : Hand → ℕ
to_end Idle = 0
to_end (RingTying q l) = 1
to_end (Ringing q) = 2
to_end (Tying x l r) = cond r 3 1
to_end (ToPut x) = 4
to_end (Finishing x g s) = looks_left s + 4
to_end (Leaving x) = 24
to_end (Removing k) = 25
to_end (Filling x v i) = length v - i + 1
to_end (Looking k x s) = looks_left s

-- a key in the hand names a slot of the heap
abbrev pub HandNames : Plan → Hand → Type 0
HandNames plan (Removing k) = (x : KeyRef) × Named plan k x
HandNames plan _ = Unit {0}

-- by these rows each step leaves fewer steps to the end of what is in the hand, whatever word it finds
abbrev pub ComesNearer : (Action → Option Row) → Hand → Type 0
ComesNearer rows h = (x : Action) (m : Row) → rows x ≡ Some m → (n : ℕ) → to_end (m.part n).hand < to_end h

-- there is a next step
abbrev pub HasNext : (Action → Option Row) → Type 0
HasNext rows = (x : Action) × (m : Row) × (rows x ≡ Some m)

-- this holds of the table, for each pass that has begun something
abbrev pub StepsComeNearer : Type 0
StepsComeNearer = (plan : Plan) (p : Body) → p.hand ≢ Idle → ComesNearer (row plan p) p.hand

abbrev pub StepsGoOn : Type 0
StepsGoOn = (plan : Plan) (p : Body) → p.hand ≢ Idle → HandNames plan p.hand → HasNext (row plan p)
