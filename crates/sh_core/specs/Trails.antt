-- What a pass did, step by step: a trail is part of no world, and no condition reads it. What is counted over it is in
-- sh_step's Footsteps.
use Rattle.std.specs.Prelude.{ℕ, ◌≡◌, ◌≢◌, ◌<◌, ◌==◌, Bool, List, [], ◌∷◌, ◌++◌, Some, None, cond, count_by, filter}
use Rattle.std.specs.Prelude.{length, slice_get}
use Rattle.sh_history.specs.declared.entry.Entry.{Entry}
use Rattle.sh_history.specs.Log.{pass_of}
use Rattle.sh_step.specs.declared.action.Action.{Action}
use Rattle.sh_step.specs.declared.action.Event.{Event}
use Rattle.sh_step.specs.declared.body.Body.{Body}
use Rattle.sh_step.specs.declared.footstep.Footstep.{Footstep}
use Rattle.sh_step.specs.Deciding.{decides}
use Rattle.sh_step.specs.Footsteps.{footstep_of}
use Rattle.sh_step.specs.Parts.{newcomer}
use Rattle.sh_step.specs.Plans.{Plan}
use Rattle.sh_step.specs.Moves.{row}
use Rattle.sh_step.specs.Rows.{Row}
use Rattle.sh_core.specs.Words.{read}
use Rattle.sh_core.specs.Worlds.{World, step, run, open_world}
use Rattle.sh_core.specs.Outcomes.{row_of_event}

-- what the event adds to the trail of pass a
abbrev pub trodden : Plan → World → Event → ℕ → List Footstep → List Footstep
trodden plan w e a steps = elim (row_of_event plan w e) [
  | Some m ↦ cond (e.pass == a) (steps ++ footstep_of e.action m (read w.words m.place) ∷ []) steps
  | None ↦ steps
]

unfoldable pub trail_from : Plan → World → ℕ → List Footstep → List Event → List Footstep
trail_from plan w a steps [] = steps
trail_from plan w a steps (e ∷ es) = trail_from plan (step plan w e) a (trodden plan w e a steps) es

-- the trail of pass a over a list of events
abbrev pub trail_of : Plan → List Event → ℕ → List Footstep
trail_of plan es a = trail_from plan (open_world plan) a [] es

-- the word that a step found, or 0 if its operation returns none
abbrev pub word_found : Footstep → ℕ
word_found t = elim (t.answer) [ Some n ↦ n | None ↦ 0 ]

-- whether the step decided a call, by the word that it found
abbrev pub decides_call : Plan → Footstep → Bool
decides_call plan t = decides plan t.action (word_found t)

-- how many of these steps decided a call
abbrev pub decided : Plan → List Footstep → ℕ
decided plan trail = count_by (decides_call plan) trail

-- what one step leaves of a part
unfoldable pub body_then : Plan → Body → Footstep → Body
body_then plan p t = elim (row plan p t.action) [ Some r ↦ r.part (word_found t) | None ↦ p ]

-- what these steps leave of a part, one after the other
unfoldable pub body_by : Plan → Body → List Footstep → Body
body_by plan p [] = p
body_by plan p (t ∷ steps) = body_by plan (body_then plan p t) steps

-- the log of pass a: its entries in the log of the world, in order
abbrev pub log_of : ℕ → World → List Entry
log_of a w = filter (λ e. pass_of e == a) w.log

-- after one more event that pass a does by this row, with the part p, the trail of a has one more step, with the word
-- that was found
abbrev pub TrailGrows : Type 0
TrailGrows = (plan : Plan) (es : List Event) (a : ℕ) (x : Action) (p : Body) (r : Row) → slice_get (run plan es).parts a
    ≡ Some p → row plan p x ≡ Some r
    → trail_of plan (es ++ record { pass = a; action = x } ∷ []) a ≡ trail_of plan es a
    ++ footstep_of x r (read (run plan es).words r.place) ∷ []

-- an event leaves the trails of the other passes as they were
abbrev pub OthersTrailsStay : Type 0
OthersTrailsStay = (plan : Plan) (es : List Event) (e : Event) (a : ℕ) → e.pass ≢ a → trail_of plan (es ++ e ∷ []) a
    ≡ trail_of plan es a

-- the part of a pass is what the steps of its trail leave of a newcomer's: no other event changes it
abbrev pub StepsMakeParts : Type 0
StepsMakeParts = (plan : Plan) (es : List Event) (a : ℕ) → a < plan.passes
    → slice_get (run plan es).parts a ≡ Some (body_by plan newcomer (trail_of plan es a))

-- a pass has as many entries in the log as steps that decided a call: each of these added one
abbrev pub StepsMakeEntries : Type 0
StepsMakeEntries = (plan : Plan) (es : List Event) (a : ℕ)
    → length (log_of a (run plan es)) ≡ decided plan (trail_of plan es a)

-- an event that is skipped leaves all trails as they were
abbrev pub SkipsLeaveTrails : Type 0
SkipsLeaveTrails = (plan : Plan) (es : List Event) (e : Event) (a : ℕ) → row_of_event plan (run plan es) e ≡ None
    → trail_of plan (es ++ e ∷ []) a ≡ trail_of plan es a
