-- Trails over one list of events after another.
use Rattle.std.proofs.Common.{◌≡◌, ℕ, ◌≤◌, ◌==◌, Bool, true, false, cond, List, [], ◌∷◌, ◌++◌, length, refl, ap, sym}
use Rattle.std.proofs.Common.{◌∙◌, arith, append-nil, append_assoc, length-append, Option, Some, None}
use Rattle.sh_step.specs.declared.action.Event.{Event}
use Rattle.sh_step.specs.declared.footstep.Footstep.{Footstep}
use Rattle.sh_step.specs.Footsteps.{footstep_of}
use Rattle.sh_step.specs.Plans.{Plan}
use Rattle.sh_step.specs.Rows.{Row}
use Rattle.sh_core.specs.Outcomes.{row_of_event}
use Rattle.sh_core.specs.Trails.{trodden, trail_from, trail_of}
use Rattle.sh_core.specs.Words.{read}
use Rattle.sh_core.specs.Worlds.{World, step, run, run_from, open_world}

-- what an event that is done by this row adds to the trail of pass a
abbrev pub treads : World → Event → ℕ → List Footstep → Option Row → List Footstep
treads w e a steps o = elim o [
  | Some m ↦ cond (e.pass == a) (steps ++ footstep_of e.action m (read w.words m.place) ∷ []) steps
  | None ↦ steps
]

chosen : (b : Bool) (t : Footstep) (steps : List Footstep) → (new : List Footstep)
    × (cond b (steps ++ t ∷ []) steps ≡ steps ++ new)
chosen true t steps = (t ∷ [], refl)
chosen false t steps = ([], sym (append-nil steps))

treads_on : (w : World) (e : Event) (a : ℕ) (steps : List Footstep) (o : Option Row) → (new : List Footstep)
    × (treads w e a steps o ≡ steps ++ new)
treads_on w e a steps None = ([], sym (append-nil steps))
treads_on w e a steps (Some m) = chosen (e.pass == a) (footstep_of e.action m (read w.words m.place)) steps

-- a trail begins with the steps that are there
pub tread_on : (plan : Plan) (w : World) (a : ℕ) (steps : List Footstep) (es : List Event) → (more : List Footstep)
    × (trail_from plan w a steps es ≡ steps ++ more)
unfolding trail_from
tread_on plan w a steps [] = ([], sym (append-nil steps))
tread_on plan w a steps (e ∷ es) =
    let new = treads_on w e a steps (row_of_event plan w e) in
    let rest = tread_on plan (step plan w e) a (trodden plan w e a steps) es in
    (new.0 ++ rest.0, rest.1 ∙ (ap (λ z. z ++ rest.0) new.1 ∙ append_assoc steps new.0 rest.0))

trail_append : (plan : Plan) (w : World) (a : ℕ) (steps : List Footstep) (es fs : List Event)
    → trail_from plan w a steps (es ++ fs) ≡ trail_from plan (run_from plan w es) a (trail_from plan w a steps es) fs
unfolding trail_from run_from
trail_append plan w a steps [] fs = refl
trail_append plan w a steps (e ∷ es) fs = trail_append plan (step plan w e) a (trodden plan w e a steps) es fs

-- more events leave the first steps of each trail
pub trail_goes_on : (plan : Plan) (es fs : List Event) (a : ℕ) → (more : List Footstep)
    × (trail_of plan (es ++ fs) a ≡ trail_of plan es a ++ more)
trail_goes_on plan es fs a =
    let rest = tread_on plan (run plan es) a (trail_of plan es a) fs in
    (rest.0, trail_append plan (open_world plan) a [] es fs ∙ rest.1)

pub trails_lengthen : (plan : Plan) (es fs : List Event) (a : ℕ)
    → length (trail_of plan es a) ≤ length (trail_of plan (es ++ fs) a)
trails_lengthen plan es fs a =
    let more = trail_goes_on plan es fs a in
    let long : length (trail_of plan (es ++ fs) a) ≡ length (trail_of plan es a ++ more.0) = ap length more.1 in
    let both = length-append (trail_of plan es a) more.0 in
    omega (arith, long, both)
