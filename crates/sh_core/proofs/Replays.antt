-- The part of a pass is what the steps of its trail leave of a newcomer's.
use Rattle.std.proofs.Common.{◌≡◌, ◌≢◌, ℕ, zero, suc, ◌<◌, ◌==◌, Bool, true, false, List, [], ◌∷◌, ◌++◌, refl, ap, sym}
use Rattle.std.proofs.Common.{◌∙◌, subst, arith, Option, Some, None, slice_get, set, append_assoc, append-nil, eqb-true}
use Rattle.std.proofs.Common.{eq-eqb, replicate}
use Rattle.sh_step.specs.declared.action.Action.{Action}
use Rattle.sh_step.specs.declared.action.Event.{Event}
use Rattle.sh_step.specs.declared.body.Body.{Body}
use Rattle.sh_step.specs.declared.footstep.Footstep.{Footstep}
use Rattle.sh_step.specs.declared.operation.Operation.{Operation}
use Rattle.sh_step.specs.declared.operation.Operation.TheVariants.{FetchAdd, FetchSub, FetchOr, Swap, Store}
use Rattle.sh_step.specs.declared.operation.Operation.TheVariants.{CompareExchange, Load}
use Rattle.sh_step.specs.Footsteps.{footstep_of}
use Rattle.sh_step.specs.Moves.{IsBlind, row}
use Rattle.sh_step.specs.Operations.{answer}
use Rattle.sh_step.specs.Parts.{newcomer}
use Rattle.sh_step.specs.Plans.{Plan}
use Rattle.sh_step.specs.Rows.{Row}
use Rattle.sh_step.proofs.ConditionLaws.{move_of_row}
use Rattle.sh_step.proofs.StepLaws.{stores_blind}
use Rattle.sh_core.specs.Outcomes.{row_of_event}
use Rattle.sh_core.specs.Trails.{trail_from, trail_of, word_found, body_then, body_by, StepsMakeParts}
use Rattle.sh_core.specs.Words.{read}
use Rattle.sh_core.specs.Worlds.{World, apply, run, run_from, open_world}
use Rattle.sh_core.proofs.Sums.Totals.{get_set_here}
use Rattle.sh_core.proofs.WaitFree.{get_set_other, skipped, step_applies}
use Rattle.sh_core.proofs.Words.Steps.{run_snoc, row_of_at, trail_grows, others_trails_stay, skips_leave_trails}

-- ---- one more step

by_one_more : (plan : Plan) (p : Body) (steps : List Footstep) (t : Footstep)
    → body_by plan p (steps ++ t ∷ []) ≡ body_then plan (body_by plan p steps) t
unfolding body_by
by_one_more plan p [] t = refl
by_one_more plan p (s ∷ steps) t = by_one_more plan (body_then plan p s) steps t

-- the part after a step whose operation is this
abbrev part_by : Action → Row → ℕ → Operation → Body
part_by x r n o = r.part (word_found (record { action = x; place = r.place; answer = answer o n }))

-- a step that stores, and so returns no word, is blind to the word that it found
pub blind_step : (plan : Plan) (p : Body) (x : Action) (r : Row) → row plan p x ≡ Some r → (new : ℕ)
    → r.operation ≡ Store new → IsBlind r
blind_step plan p x r is new e =
    let m = move_of_row plan p x r is in
    subst IsBlind (sym m.4) (stores_blind plan p m.0 new (ap (λ (z : Row). z.operation) (sym m.4) ∙ e))

-- a step that returns no word leaves the same part, whatever word it found
part_found : (plan : Plan) (p : Body) (x : Action) (r : Row) (n : ℕ) → row plan p x ≡ Some r
    → r.part (word_found (footstep_of x r n)) ≡ r.part n
part_found plan p x r n is = go r.operation refl
  where
    go : (o : Operation) → r.operation ≡ o → part_by x r n r.operation ≡ r.part n
    go (FetchAdd m) e = ap (part_by x r n) e
    go (FetchSub m) e = ap (part_by x r n) e
    go (FetchOr m) e = ap (part_by x r n) e
    go (Swap m) e = ap (part_by x r n) e
    go (Store new) e = (blind_step plan p x r is new e (word_found (footstep_of x r n)) n).0
    go (CompareExchange old new) e = ap (part_by x r n) e
    go Load e = ap (part_by x r n) e

then_is : (plan : Plan) (p : Body) (x : Action) (r : Row) (n : ℕ) → row plan p x ≡ Some r
    → body_then plan p (footstep_of x r n) ≡ r.part n
unfolding body_then
then_is plan p x r n is =
    ap (λ (o : Option Row). elim o as (λ _. Body)
    [ Some m ↦ m.part (word_found (footstep_of x r n)) | None ↦ p ]) is
    ∙ part_found plan p x r n is

-- ---- one more event

abbrev MadeBySteps : Plan → List Event → ℕ → Type 0
MadeBySteps plan es a = slice_get (run plan es).parts a ≡ Some (body_by plan newcomer (trail_of plan es a))

one_event : (plan : Plan) (es : List Event) (e : Event) (a : ℕ) → MadeBySteps plan es a
    → MadeBySteps plan (es ++ e ∷ []) a
unfolding apply
one_event plan es e a at = go (row_of_event plan (run plan es) e) refl where
  w : World
  w = run plan es

  p : Body
  p = body_by plan newcomer (trail_of plan es a)

  as_before : trail_of plan (es ++ e ∷ []) a ≡ trail_of plan es a
      → slice_get (run plan (es ++ e ∷ [])).parts a ≡ Some p → MadeBySteps plan (es ++ e ∷ []) a
  as_before same has = has ∙ ap (λ (s : List Footstep). Some (body_by plan newcomer s)) (sym same)

  go : (o : Option Row) → row_of_event plan w e ≡ o → MadeBySteps plan (es ++ e ∷ []) a
  go None none =
      let same : run plan (es ++ e ∷ []) ≡ w = run_snoc plan (open_world plan) es e ∙ skipped plan w e none in
      as_before (skips_leave_trails plan es e a none)
      (subst (λ (v : World). slice_get v.parts a ≡ Some p) (sym same) at)
  go (Some r) some = by (e.pass == a) refl where
    new : run plan (es ++ e ∷ []) ≡ apply w e.pass r
    new = run_snoc plan (open_world plan) es e ∙ step_applies plan w e r some

    by : (b : Bool) → (e.pass == a) ≡ b → MadeBySteps plan (es ++ e ∷ []) a
    by true is =
        let own : e.pass ≡ a = eqb-true e.pass a is in
        let here : slice_get w.parts e.pass ≡ Some p = ap (slice_get w.parts) own ∙ at in
        let its : row plan p e.action ≡ Some r = sym (row_of_at plan w e p here) ∙ some in
        let n : ℕ = read w.words r.place in
        let t : Footstep = footstep_of e.action r n in
        let grown : trail_of plan (es ++ e ∷ []) e.pass ≡ trail_of plan es e.pass ++ t ∷ [] =
        trail_grows plan es e.pass e.action p r here its in
        let grown_a : trail_of plan (es ++ e ∷ []) a ≡ trail_of plan es a ++ t ∷ [] = subst
        (λ (c : ℕ). trail_of plan (es ++ e ∷ []) c ≡ trail_of plan es c ++ t ∷ []) own grown in
        let part : slice_get (run plan (es ++ e ∷ [])).parts a ≡ Some (r.part n) = subst
        (λ (v : World). slice_get v.parts a ≡ Some (r.part n)) (sym new)
        (subst (λ (c : ℕ). slice_get (set w.parts e.pass (r.part n)) c ≡ Some (r.part n)) own
        (get_set_here w.parts e.pass p (r.part n) here)) in
        let made : body_by plan newcomer (trail_of plan (es ++ e ∷ []) a) ≡ r.part n =
        ap (body_by plan newcomer) grown_a
        ∙ (by_one_more plan newcomer (trail_of plan es a) t ∙ then_is plan p e.action r n its) in
        part ∙ ap (λ (z : Body). Some z) (sym made)
    by false is =
        let other : e.pass ≢ a = λ same. let z : true ≡ false = sym (eq-eqb e.pass a same) ∙ is in cc in
        as_before (others_trails_stay plan es e a other)
        (subst (λ (v : World). slice_get v.parts a ≡ Some p) (sym new)
        (get_set_other w.parts e.pass a (r.part (read w.words r.place)) other ∙ at))

-- ---- all events

made_on : (plan : Plan) (es fs : List Event) (a : ℕ) → MadeBySteps plan es a → MadeBySteps plan (es ++ fs) a
made_on plan es [] a at = subst (λ (ds : List Event). MadeBySteps plan ds a) (sym (append-nil es)) at
made_on plan es (e ∷ fs) a at = subst (λ (ds : List Event). MadeBySteps plan ds a) (append_assoc es (e ∷ []) fs)
    (made_on plan (es ++ e ∷ []) fs a (one_event plan es e a at))

pub new_at : (n a : ℕ) → a < n → slice_get (replicate n newcomer) a ≡ Some newcomer
new_at zero a l = absurd (omega arith)
new_at (suc n) zero l = refl
new_at (suc n) (suc a) l = new_at n a (omega arith)

opens : (plan : Plan) (a : ℕ) → a < plan.passes → MadeBySteps plan [] a
unfolding run_from trail_from body_by
opens plan a few = new_at plan.passes a few

pub steps_make_parts : StepsMakeParts
steps_make_parts plan es a few = made_on plan [] es a (opens plan a few)
