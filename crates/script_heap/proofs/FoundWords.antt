-- The word that a pass found, if between two cuts it alone did steps and this was its first.
use Rattle.std.proofs.Common.{◌≡◌, ◌≢◌, ℕ, ◌+◌, ◌<◌, ◌==◌, ◌&&◌, Bool, true, false, List, [], ◌∷◌, ◌++◌, length, refl}
use Rattle.std.proofs.Common.{ap, sym, ◌∙◌, subst, arith, append-nil, append_assoc, eqb-true, ⊎_elim}
use Rattle.std.proofs.Common.{Option, Some, None, slice_get}
use Rattle.std.proofs.lemmas.Bool.{cases_eq}
use Rattle.std.proofs.lemmas.List.{length-append}
use Rattle.std.proofs.lemmas.Option.{none-some, slice_get_within}
use Rattle.sh_shape.specs.declared.places.Place.{Place}
use Rattle.sh_shape.specs.declared.places.Place.TheVariants.{Owner}
use Rattle.sh_step.specs.declared.action.Action.{Action}
use Rattle.sh_step.specs.declared.action.Action.TheVariants.{Adopt}
use Rattle.sh_step.specs.declared.action.Event.{Event}
use Rattle.sh_step.specs.declared.body.Body.{Body}
use Rattle.sh_step.specs.declared.footstep.Footstep.{Footstep}
use Rattle.sh_step.specs.declared.operation.Operation.{Operation}
use Rattle.sh_step.specs.declared.operation.Operation.TheVariants.{FetchAdd, FetchSub, FetchOr, Swap, Store}
use Rattle.sh_step.specs.declared.operation.Operation.TheVariants.{CompareExchange, Load}
use Rattle.sh_step.specs.Footsteps.{footstep_of, at_owner, did_find, meets_owner}
use Rattle.sh_step.specs.Moves.{row}
use Rattle.sh_step.specs.Operations.{answer}
use Rattle.sh_step.specs.Plans.{Plan}
use Rattle.sh_step.specs.Rows.{Row}
use Rattle.sh_step.proofs.Truths.{and2}
use Rattle.sh_core.specs.Outcomes.{row_of_event}
use Rattle.sh_core.specs.Trails.{trail_of}
use Rattle.sh_core.specs.Words.{Words, read}
use Rattle.sh_core.specs.Worlds.{World, run}
use Rattle.sh_core.proofs.Words.Steps.{row_of_at, trail_grows, skips_leave_trails}
use Rattle.sh_core.proofs.Words.Stepping.{row_of_past}
use Rattle.sh_core.proofs.Words.Trails.{trail_goes_on}
use Rattle.sh_pass.specs.Owners.{finds_free}

-- ---- the step of an event

module _ (plan : Plan) (few : (es : List Event) → length (run plan es).parts ≡ plan.passes) where
  -- an event that is done is of a pass of the heap, and adds its step to the trail
  record OneStep (es : List Event) (e : Event) (m : Row) : Type 0 where
    inside : e.pass < plan.passes
    trail : trail_of plan (es ++ e ∷ []) e.pass ≡ trail_of plan es e.pass
        ++ footstep_of e.action m (read (run plan es).words m.place) ∷ []

  one_step : (es : List Event) (e : Event) (m : Row) → row_of_event plan (run plan es) e ≡ Some m → OneStep es e m
  one_step es e m is = go (slice_get (run plan es).parts e.pass) refl where
    go : (o : Option Body) → slice_get (run plan es).parts e.pass ≡ o → OneStep es e m
    go None at = absurd (none-some m (sym (row_of_past plan (run plan es) e at) ∙ is))
    go (Some p) at =
        let within : e.pass < length (run plan es).parts = slice_get_within (run plan es).parts e.pass p at in
        let all = few es in
        let its : row plan p e.action ≡ Some m = sym (row_of_at plan (run plan es) e p at) ∙ is in
        record { inside = omega (arith, within, all); trail = trail_grows plan es e.pass e.action p m at its }

  -- The step was done after these events. Each pass had done by then what it had done before.
  pub record FoundAfter (early : List Event) (t : Footstep) : Type 0 where
    pub events : List Event
    pub same : (q : ℕ) → q < plan.passes → trail_of plan events q ≡ trail_of plan early q
    pub x : Action
    pub m : Row
    pub is : t ≡ footstep_of x m (read (run plan events).words m.place)

  first_is : (steps more later : List Footstep) (s t : Footstep) → (steps ++ s ∷ []) ++ more ≡ steps ++ t ∷ later
      → s ≡ t
  first_is [] more later s t e = cc
  first_is (x ∷ xs) more later s t e =
      let rest : (xs ++ s ∷ []) ++ more ≡ xs ++ t ∷ later = cc in first_is xs more later s t rest

  -- the first step between two cuts, if no other pass does one
  pub first_step : (early own : List Event) (p : ℕ) (t : Footstep) (later : List Footstep)
      → trail_of plan (early ++ own) p ≡ trail_of plan early p ++ t ∷ later
      → ((q : ℕ) → q < plan.passes → q ≢ p → trail_of plan (early ++ own) q ≡ trail_of plan early q)
      → FoundAfter early t
  first_step early [] p t later mine others =
      let same : trail_of plan early p ≡ trail_of plan early p ++ t ∷ later =
      ap (λ (es : List Event). trail_of plan es p) (sym (append-nil early)) ∙ mine in
      let long : length (trail_of plan early p) ≡ length (trail_of plan early p ++ t ∷ later) = ap length same in
      let both = length-append (trail_of plan early p) (t ∷ later) in
      absurd (omega (arith, long, both))
  first_step early (e ∷ es) p t later mine others =
      go (first_step (early ++ e ∷ []) es p t later) (row_of_event plan (run plan early) e) refl
    where
      more : List Event
      more = early ++ e ∷ []

      then_rest : (q : ℕ) → trail_of plan (more ++ es) q ≡ trail_of plan (early ++ (e ∷ es)) q
      then_rest q = ap (λ (ds : List Event). trail_of plan ds q) (append_assoc early (e ∷ []) es)

      skipped : row_of_event plan (run plan early) e ≡ None → (q : ℕ) → trail_of plan more q ≡ trail_of plan early q
      skipped none q = skips_leave_trails plan early e q none

      go : (trail_of plan (more ++ es) p ≡ trail_of plan more p ++ t ∷ later
          → ((q : ℕ) → q < plan.passes → q ≢ p → trail_of plan (more ++ es) q ≡ trail_of plan more q)
          → FoundAfter more t) → (o : Option Row) → row_of_event plan (run plan early) e ≡ o → FoundAfter early t
      go on None none =
          let f = on (then_rest p ∙ (mine ∙ ap (λ (s : List Footstep). s ++ t ∷ later) (sym (skipped none p))))
          (λ q lt ne. then_rest q ∙ (others q lt ne ∙ sym (skipped none q))) in
          record {
            events = f.events;
            same = λ q lt. f.same q lt ∙ skipped none q;
            x = f.x;
            m = f.m;
            is = f.is;
          }
      go on (Some m) some = ⊎_elim by_pass by_other (cases_eq e.pass p)
        where
          s : Footstep
          s = footstep_of e.action m (read (run plan early).words m.place)

          one : OneStep early e m
          one = one_step early e m some

          by_pass : e.pass ≡ p → FoundAfter early t
          by_pass own =
              let grown : trail_of plan more p ≡ trail_of plan early p ++ s ∷ [] = subst
              (λ (c : ℕ). trail_of plan more c ≡ trail_of plan early c ++ s ∷ []) own one.trail in
              let rest = trail_goes_on plan more es p in
              let both : (trail_of plan early p ++ s ∷ []) ++ rest.0 ≡ trail_of plan early p ++ t ∷ later =
              ap (λ (ss : List Footstep). ss ++ rest.0) (sym grown) ∙ (sym rest.1 ∙ (then_rest p ∙ mine)) in
              record {
                events = early;
                same = λ q lt. refl;
                x = e.action;
                m = m;
                is = sym (first_is (trail_of plan early p) rest.0 later s t both);
              }

          by_other : e.pass ≢ p → FoundAfter early t
          by_other ne =
              let rest = trail_goes_on plan more es e.pass in
              let all : trail_of plan early e.pass ≡ (trail_of plan early e.pass ++ s ∷ []) ++ rest.0 =
              sym (others e.pass one.inside ne) ∙ (sym (then_rest e.pass) ∙ (rest.1
              ∙ ap (λ (ss : List Footstep). ss ++ rest.0) one.trail)) in
              let long : length (trail_of plan early e.pass)
              ≡ length ((trail_of plan early e.pass ++ s ∷ []) ++ rest.0) = ap length all in
              let a = length-append (trail_of plan early e.pass ++ s ∷ []) rest.0 in
              let b = length-append (trail_of plan early e.pass) (s ∷ []) in
              absurd (omega (arith, long, a, b))

-- ---- the word that an adopt found

found_word : (word : ℕ) (o : Operation) (x : Action) (at : Place) (n : ℕ)
    → did_find word (record { action = x; place = at; answer = answer o n }) ≡ true → n ≡ word
found_word word (FetchAdd m) x at n h = eqb-true n word h
found_word word (FetchSub m) x at n h = eqb-true n word h
found_word word (FetchOr m) x at n h = eqb-true n word h
found_word word (Swap m) x at n h = eqb-true n word h
found_word word (Store m) x at n h = absurd (let z : false ≡ true = h in cc)
found_word word (CompareExchange old new) x at n h = eqb-true n word h
found_word word Load x at n h = eqb-true n word h

-- the owner word that a step found on the place of this row
owner_word : (word k j : ℕ) (m : Row) (w : Words) (o : Place)
    → (at_owner k o && did_find word (record { action = Adopt j; place = o; answer = answer m.operation (read w o) }))
    ≡ true → w.owner_at k ≡ word
owner_word word k j m w (Owner i) h =
    let both = and2 (i == k)
    (did_find word (record { action = Adopt j; place = Owner i; answer = answer m.operation (w.owner_at i) })) h in
    subst (λ (z : ℕ). w.owner_at z ≡ word) (eqb-true i k both.0)
    (found_word word m.operation (Adopt j) (Owner i) (w.owner_at i) both.1)
owner_word word k j m w _ h = absurd (let z : false ≡ true = h in cc)

-- a step that met an owner found the shard's owner word 1
pub met_one : (k : ℕ) (x : Action) (m : Row) (w : Words)
    → meets_owner k (footstep_of x m (read w m.place)) ≡ true → w.owner_at k ≡ 1
met_one k (Adopt j) m w h = owner_word 1 k j m w m.place h
met_one k _ m w h = absurd (let z : false ≡ true = h in cc)

-- a step that found no owner found it 0
pub met_none : (k : ℕ) (x : Action) (m : Row) (w : Words)
    → finds_free k (footstep_of x m (read w m.place)) ≡ true → w.owner_at k ≡ 0
met_none k (Adopt j) m w h = owner_word 0 k j m w m.place h
met_none k _ m w h = absurd (let z : false ≡ true = h in cc)
