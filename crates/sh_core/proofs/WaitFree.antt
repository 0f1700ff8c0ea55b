-- A pass ends what it has begun within a number of its own steps.
use Rattle.std.proofs.Common.{◌≡◌, ◌≢◌, ℕ, zero, suc, ◌+◌, ◌≤◌, ◌==◌, Bool, true, false, List, [], ◌∷◌, ◌++◌, refl}
use Rattle.std.proofs.Common.{ap, sym, ◌∙◌, subst, arith, length, Option, Some, None, slice_get, set, append_assoc}
use Rattle.std.proofs.Common.{append-nil, eqb-true, eq-eqb}
use Rattle.std.proofs.lemmas.List.{length-append}
use Rattle.sh_slots.specs.declared.hand.Hand.TheVariants.{Idle}
use Rattle.sh_step.specs.declared.action.Event.{Event}
use Rattle.sh_step.specs.declared.body.Body.{Body}
use Rattle.sh_step.specs.Ends.{to_end}
use Rattle.sh_step.specs.Footsteps.{footstep_of}
use Rattle.sh_step.specs.Moves.{row}
use Rattle.sh_step.specs.Plans.{Plan}
use Rattle.sh_step.specs.Rows.{Row}
use Rattle.sh_step.proofs.EndLaws.{steps_come_nearer}
use Rattle.sh_core.specs.Outcomes.{row_of_event}
use Rattle.sh_core.specs.Trails.{trail_of}
use Rattle.sh_core.specs.WaitFree.{WaitFree}
use Rattle.sh_core.specs.Words.{read}
use Rattle.sh_core.specs.Worlds.{World, apply, run, step, open_world}
use Rattle.sh_core.proofs.Sums.Totals.{get_set_here}
use Rattle.sh_core.proofs.Words.Steps.{run_snoc, row_of_at, trail_grows, others_trails_stay, skips_leave_trails}

pub get_set_other : {A : Type 0} (xs : List A) (i j : ℕ) (w : A) → i ≢ j → slice_get (set xs i w) j ≡ slice_get xs j
get_set_other [] i j w other = refl
get_set_other (x ∷ xs) zero zero w other = absurd (other refl)
get_set_other (x ∷ xs) zero (suc j) w other = refl
get_set_other (x ∷ xs) (suc i) zero w other = refl
get_set_other (x ∷ xs) (suc i) (suc j) w other = get_set_other xs i j w (λ h. other (ap suc h))

pub skipped : (plan : Plan) (w : World) (e : Event) → row_of_event plan w e ≡ None → step plan w e ≡ w
unfolding step row_of_event
skipped plan w e is = go (slice_get w.parts e.pass) is where
  go : (o : Option Body) → (elim o as (λ _. Option Row) [ Some p ↦ row plan p e.action | None ↦ None ]) ≡ None
      → (elim o as (λ _. World) [
        | Some p ↦ elim (row plan p e.action) [ Some m ↦ apply w e.pass m | None ↦ w ]
        | None ↦ w
      ]) ≡ w
  go None h = refl
  go (Some p) h = ap (λ (o : Option Row). elim o as (λ _. World) [ Some m ↦ apply w e.pass m | None ↦ w ]) h

pub step_applies : (plan : Plan) (w : World) (e : Event) (r : Row) → row_of_event plan w e ≡ Some r
    → step plan w e ≡ apply w e.pass r
unfolding step row_of_event
step_applies plan w e r is = go (slice_get w.parts e.pass) is where
  go : (o : Option Body) → (elim o as (λ _. Option Row) [ Some p ↦ row plan p e.action | None ↦ None ]) ≡ Some r
      → (elim o as (λ _. World) [
        | Some p ↦ elim (row plan p e.action) [ Some m ↦ apply w e.pass m | None ↦ w ]
        | None ↦ w
      ]) ≡ apply w e.pass r
  go None h = absurd (let z : None ≡ Some r = h in cc)
  go (Some p) h = ap (λ (o : Option Row). elim o as (λ _. World) [ Some m ↦ apply w e.pass m | None ↦ w ]) h

-- after one more event
record Nearer (plan : Plan) (es : List Event) (e : Event) (a : ℕ) (p : Body) : Type 0 where
  body : Body
  at : slice_get (run plan (es ++ e ∷ [])).parts a ≡ Some body
  less : length (trail_of plan (es ++ e ∷ []) a) + to_end body.hand ≤ length (trail_of plan es a) + to_end p.hand

one_event : (plan : Plan) (es : List Event) (e : Event) (a : ℕ) (p : Body) → slice_get (run plan es).parts a ≡ Some p
    → p.hand ≢ Idle → Nearer plan es e a p
unfolding apply
one_event plan es e a p at busy = go (row_of_event plan (run plan es) e) refl where
  w : World
  w = run plan es

  go : (o : Option Row) → row_of_event plan w e ≡ o → Nearer plan es e a p
  go None none =
      let same : run plan (es ++ e ∷ []) ≡ w = run_snoc plan (open_world plan) es e ∙ skipped plan w e none in
      let trail : length (trail_of plan (es ++ e ∷ []) a) ≡ length (trail_of plan es a) = ap (length)
      (skips_leave_trails plan es e a none) in record {
        body = p;
        at = subst (λ (v : World). slice_get v.parts a ≡ Some p) (sym same) at;
        less = omega (arith, trail);
      }
  go (Some r) some = by (e.pass == a) refl where
    new : run plan (es ++ e ∷ []) ≡ apply w e.pass r
    new = run_snoc plan (open_world plan) es e ∙ step_applies plan w e r some

    by : (b : Bool) → (e.pass == a) ≡ b → Nearer plan es e a p
    by true is =
        let own : e.pass ≡ a = eqb-true e.pass a is in
        let here : slice_get w.parts e.pass ≡ Some p = ap (slice_get w.parts) own ∙ at in
        let its : row plan p e.action ≡ Some r = sym (row_of_at plan w e p here) ∙ some in
        let n : ℕ = read w.words r.place in
        let grown = trail_grows plan es e.pass e.action p r here its in
        let long : length (trail_of plan (es ++ e ∷ []) e.pass) ≡ length (trail_of plan es e.pass) + 1 = ap length grown
        ∙ length-append (trail_of plan es e.pass) (footstep_of e.action r n ∷ []) in
        let long_a : length (trail_of plan (es ++ e ∷ []) a) ≡ length (trail_of plan es a) + 1 = subst
        (λ (c : ℕ). length (trail_of plan (es ++ e ∷ []) c) ≡ length (trail_of plan es c) + 1) own long in
        let near = steps_come_nearer plan p busy e.action r its n in record {
          body = r.part n;
          at = subst (λ (v : World). slice_get v.parts a ≡ Some (r.part n)) (sym new)
              (subst (λ (c : ℕ). slice_get (set w.parts e.pass (r.part n)) c ≡ Some (r.part n)) own
              (get_set_here w.parts e.pass p (r.part n) here));
          less = omega (arith, long_a, near);
        }
    by false is =
        let other : e.pass ≢ a = λ same. let z : true ≡ false = sym (eq-eqb e.pass a same) ∙ is in cc in
        let trail : length (trail_of plan (es ++ e ∷ []) a) ≡ length (trail_of plan es a) = ap (length)
        (others_trails_stay plan es e a other) in record {
          body = p;
          at = subst (λ (v : World). slice_get v.parts a ≡ Some p) (sym new)
              (get_set_other w.parts e.pass a (r.part (read w.words r.place)) other ∙ at);
          less = omega (arith, trail);
        }

same_part : (ps : List Body) (a : ℕ) (p u : Body) → slice_get ps a ≡ Some p → slice_get ps a ≡ Some u → p ≡ u
same_part ps a p u e d = let z : Some p ≡ Some u = sym e ∙ d in cc

pub wait_free : WaitFree
wait_free plan es [] a p u at last busy =
    let none : es ++ [] ≡ es = append-nil es in
    let same : p ≡ u = same_part (run plan es).parts a p u at (subst
    (λ (ds : List Event). slice_get (run plan ds).parts a ≡ Some u) none last) in
    let ends : to_end p.hand ≡ to_end u.hand = ap (λ (z : Body). to_end z.hand) same in
    let trail : length (trail_of plan (es ++ []) a) ≡ length (trail_of plan es a) = ap
    (λ (ds : List Event). length (trail_of plan ds a)) none in omega (arith, ends, trail)
wait_free plan es (e ∷ fs) a p u at last busy =
    let begun = busy.0 in
    let same : begun.body ≡ p = same_part (run plan es).parts a begun.body p begun.at at in
    let is : p.hand ≢ Idle = subst (λ (z : Body). z.hand ≢ Idle) same begun.busy in
    let one = one_event plan es e a p at is in
    let whole : (es ++ e ∷ []) ++ fs ≡ es ++ (e ∷ fs) = append_assoc es (e ∷ []) fs in
    let rest = wait_free plan (es ++ e ∷ []) fs a one.body u one.at (subst
    (λ (ds : List Event). slice_get (run plan ds).parts a ≡ Some u) (sym whole) last) busy.1 in
    let trail : length (trail_of plan ((es ++ e ∷ []) ++ fs) a) ≡ length (trail_of plan (es ++ (e ∷ fs)) a) = ap
    (λ (ds : List Event). length (trail_of plan ds a)) whole in
    let less = one.less in omega (arith, rest, trail, less)
