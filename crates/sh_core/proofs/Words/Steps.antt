-- A step whose part and move are known.
use Rattle.std.proofs.Common.{◌≡◌, ◌≢◌, ℕ, ◌==◌, cond, List, [], ◌∷◌, ◌++◌, refl, ap, ◌∙◌, Option, Some, None}
use Rattle.std.proofs.Common.{slice_get, eq-eqb, ne_eqb}
use Rattle.sh_step.specs.declared.action.Event.{Event}
use Rattle.sh_step.specs.Plans.{Plan}
use Rattle.sh_step.specs.declared.body.Body.{Body}
use Rattle.sh_step.specs.Moves.{row}
use Rattle.sh_step.specs.Rows.{Row}
use Rattle.sh_step.specs.declared.footstep.Footstep.{Footstep}
use Rattle.sh_step.specs.Footsteps.{footstep_of}
use Rattle.sh_core.specs.Outcomes.{row_of_event}
use Rattle.sh_core.specs.Trails.{trodden, trail_from, trail_of, TrailGrows, OthersTrailsStay, SkipsLeaveTrails}
use Rattle.sh_core.specs.Words.{read}
use Rattle.sh_core.specs.Worlds.{World, step, apply, run, run_from, open_world}

pub step_moves : (plan : Plan) (w : World) (e : Event) (p : Body) (m : Row) → slice_get w.parts e.pass ≡ Some p
    → row plan p e.action ≡ Some m → step plan w e ≡ apply w e.pass m
unfolding step
step_moves plan w e p m at is =
    ap (λ (o : Option Body). elim o as (λ _. World) [
      | Some p ↦ elim (row plan p e.action)
          [ Some m ↦ apply w e.pass m | None ↦ w ]
      | None ↦ w
    ]) at
    ∙ ap (λ (o : Option Row). elim o as (λ _. World) [ Some m ↦ apply w e.pass m | None ↦ w ]) is

pub step_skips : (plan : Plan) (w : World) (e : Event) (p : Body) → slice_get w.parts e.pass ≡ Some p
    → row plan p e.action ≡ None → step plan w e ≡ w
unfolding step
step_skips plan w e p at is =
    ap (λ (o : Option Body). elim o as (λ _. World) [
      | Some p ↦ elim (row plan p e.action)
          [ Some m ↦ apply w e.pass m | None ↦ w ]
      | None ↦ w
    ]) at
    ∙ ap (λ (o : Option Row). elim o as (λ _. World) [ Some m ↦ apply w e.pass m | None ↦ w ]) is

pub step_past : (plan : Plan) (w : World) (e : Event) → slice_get w.parts e.pass ≡ None → step plan w e ≡ w
unfolding step
step_past plan w e at = ap (λ (o : Option Body). elim o as (λ _. World)
    [ Some p ↦ elim (row plan p e.action) [ Some m ↦ apply w e.pass m | None ↦ w ] | None ↦ w ]) at

pub run_snoc : (plan : Plan) (w : World) (es : List Event) (e : Event) → run_from plan w (es ++ e ∷ [])
    ≡ step plan (run_from plan w es) e
unfolding run_from
run_snoc plan w [] e = refl
run_snoc plan w (d ∷ es) e = run_snoc plan (step plan w d) es e

pub run_append : (plan : Plan) (w : World) (xs ys : List Event) → run_from plan w (xs ++ ys)
    ≡ run_from plan (run_from plan w xs) ys
unfolding run_from
run_append plan w [] ys = refl
run_append plan w (x ∷ xs) ys = run_append plan (step plan w x) xs ys

pub run_none : (plan : Plan) (w : World) → run_from plan w [] ≡ w
unfolding run_from
run_none plan w = refl

-- ---- one more event: what it adds to each trail

trail_snoc : (plan : Plan) (w : World) (a : ℕ) (steps : List Footstep) (es : List Event) (e : Event)
    → trail_from plan w a steps (es ++ e ∷ []) ≡ trodden plan (run_from plan w es) e a (trail_from plan w a steps es)
unfolding trail_from run_from
trail_snoc plan w a steps [] e = refl
trail_snoc plan w a steps (d ∷ es) e = trail_snoc plan (step plan w d) a (trodden plan w d a steps) es e

-- what the row of an event adds, if it has one
adds : World → Event → ℕ → List Footstep → Option Row → List Footstep
adds w e a steps o = elim o [
  | Some m ↦ cond (e.pass == a) (steps ++ footstep_of e.action m (read w.words m.place) ∷ [])
      steps
  | None ↦ steps
]

one_more : (plan : Plan) (es : List Event) (e : Event) (a : ℕ) → trail_of plan (es ++ e ∷ []) a
    ≡ adds (run plan es) e a (trail_of plan es a) (row_of_event plan (run plan es) e)
unfolding adds
one_more plan es e a = trail_snoc plan (open_world plan) a [] es e

pub row_of_at : (plan : Plan) (w : World) (e : Event) (p : Body) → slice_get w.parts e.pass ≡ Some p
    → row_of_event plan w e ≡ row plan p e.action
unfolding row_of_event
row_of_at plan w e p at = ap (λ (o : Option Body). elim o as (λ _. Option Row)
    [ Some p ↦ row plan p e.action | None ↦ None ]) at

pub trail_grows : TrailGrows
unfolding adds
trail_grows plan es a x p r at is =
    let w : World = run plan es in
    let e : Event = record { pass = a; action = x } in
    let old : List Footstep = trail_of plan es a in
    let new : List Footstep = old ++ footstep_of x r (read w.words r.place) ∷ [] in
    one_more plan es e a ∙ (ap (adds w e a old) (row_of_at plan w e p at ∙ is)
    ∙ ap (λ b. cond b new old) (eq-eqb a a refl))

others_stay : (w : World) (e : Event) (a : ℕ) (steps : List Footstep) (o : Option Row) → e.pass ≢ a → adds w e a steps o
    ≡ steps
unfolding adds
others_stay w e a steps (Some m) other =
    ap (λ b. cond b (steps ++ footstep_of e.action m (read w.words m.place) ∷ []) steps) (ne_eqb e.pass a other)
others_stay w e a steps None other = refl

pub others_trails_stay : OthersTrailsStay
others_trails_stay plan es e a other = one_more plan es e a ∙ others_stay (run plan es) e a (trail_of plan es a)
    (row_of_event plan (run plan es) e) other

pub skips_leave_trails : SkipsLeaveTrails
unfolding adds
skips_leave_trails plan es e a none = one_more plan es e a ∙ ap (adds (run plan es) e a (trail_of plan es a)) none
