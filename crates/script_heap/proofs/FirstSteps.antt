-- The first step of a run finds its word as the heap opened it.
use Rattle.std.proofs.Common.{◌≡◌, ◌≢◌, ℕ, ◌<◌, ◌==◌, Bool, true, false, cond, List, [], ◌∷◌, ◌++◌, length, refl, ap}
use Rattle.std.proofs.Common.{sym, ◌∙◌, subst, arith, eq-eqb, ⊎_elim}
use Rattle.std.proofs.Common.{Option, Some, None, slice_get}
use Rattle.std.specs.Prelude.{◌&&◌, replicate}
use Rattle.std.proofs.lemmas.Bool.{cases_eq}
use Rattle.std.proofs.lemmas.List.{length-replicate}
use Rattle.std.proofs.lemmas.Option.{none-some, slice_get_within}
use Rattle.sh_shape.specs.declared.places.Place.{Place}
use Rattle.sh_shape.specs.declared.places.Place.TheVariants.{Owner}
use Rattle.sh_step.specs.declared.action.Action.{Action}
use Rattle.sh_step.specs.declared.action.Action.TheVariants.{Adopt}
use Rattle.sh_step.specs.declared.action.Event.{Event}
use Rattle.sh_step.specs.declared.body.Body.{Body}
use Rattle.sh_step.specs.declared.footstep.Footstep.{Footstep}
use Rattle.sh_step.specs.declared.operation.Operation.{Operation}
use Rattle.sh_step.specs.declared.operation.Operation.TheVariants.{FetchAdd, FetchSub, FetchOr, Swap, Store}
use Rattle.sh_step.specs.declared.operation.Operation.TheVariants.{CompareExchange, Load}
use Rattle.sh_step.specs.Collections.{if1}
use Rattle.sh_step.specs.Footsteps.{footstep_of, at_owner, did_find, meets_owner, owner_met}
use Rattle.sh_step.specs.Moves.{row}
use Rattle.sh_step.specs.Operations.{answer}
use Rattle.sh_step.specs.Parts.{newcomer}
use Rattle.sh_step.specs.Plans.{Plan}
use Rattle.sh_step.specs.Rows.{Row}
use Rattle.sh_step.proofs.FootstepLaws.{counts_grow}
use Rattle.sh_core.specs.Outcomes.{row_of_event}
use Rattle.sh_core.specs.Trails.{trodden, trail_from, trail_of}
use Rattle.sh_core.specs.Words.{read, opening}
use Rattle.sh_core.specs.Worlds.{World, step, open_world}
use Rattle.sh_core.proofs.WaitFree.{skipped}
use Rattle.sh_core.proofs.Words.Trails.{treads, tread_on}

-- ---- trails

trail_more : (plan : Plan) (w : World) (a : ℕ) (steps : List Footstep) (e : Event) (es : List Event)
    → trail_from plan w a steps (e ∷ es) ≡ trail_from plan (step plan w e) a (trodden plan w e a steps) es
unfolding trail_from
trail_more plan w a steps e es = refl

trail_none : (plan : Plan) (w : World) (a : ℕ) → trail_from plan w a [] [] ≡ []
unfolding trail_from
trail_none plan w a = refl

-- an event that is done is of a pass of the world
is_of_pass : (plan : Plan) (w : World) (e : Event) (m : Row) → row_of_event plan w e ≡ Some m → e.pass < length w.parts
unfolding row_of_event
is_of_pass plan w e m is = go (slice_get w.parts e.pass) refl is
  where
    go : (o : Option Body) → slice_get w.parts e.pass ≡ o
        → elim o as (λ _. Option Row) [ Some p ↦ row plan p e.action | None ↦ None ] ≡ Some m
        → e.pass < length w.parts
    go None at h = absurd (none-some m h)
    go (Some p) at h = slice_get_within w.parts e.pass p at

-- ---- the first step

-- no word that is 0 as it is found is 1
not_one : (o : Operation) (x : Action) (at : Place)
    → did_find 1 (record { action = x; place = at; answer = answer o 0 }) ≡ false
not_one (FetchAdd m) x at = refl
not_one (FetchSub m) x at = refl
not_one (FetchOr m) x at = refl
not_one (Swap m) x at = refl
not_one (Store m) x at = refl
not_one (CompareExchange old new) x at = refl
not_one Load x at = refl

and_false : (b : Bool) → (b && false) ≡ false
and_false true = refl
and_false false = refl

-- as the heap opened, no shard has an owner
meets_none : (n : ℕ) (x : Action) (m : Row) → meets_owner n (footstep_of x m (read opening m.place)) ≡ false
meets_none n (Adopt k) m = at m.place
  where
    at : (o : Place) → (at_owner n o
        && did_find 1 (record { action = Adopt k; place = o; answer = answer m.operation (read opening o) })) ≡ false
    at (Owner i) = ap (λ b. (i == n) && b) (not_one m.operation (Adopt k) (Owner i)) ∙ and_false (i == n)
    at _ = refl
meets_none n _ m = refl

module _ (plan : Plan) (shard pass : ℕ) where
  abbrev opened : World
  opened = open_world plan

  abbrev first : Event → Row → Footstep
  first e m = footstep_of e.action m (read opening m.place)

  -- the trail of the pass that did the first event begins with its step
  begins : (e : Event) (m : Row) (es : List Event) → row_of_event plan opened e ≡ Some m → (more : List Footstep)
      × (trail_of plan (e ∷ es) e.pass ≡ first e m ∷ more)
  begins e m es is =
      let one : trodden plan opened e e.pass [] ≡ first e m ∷ [] =
      ap (treads opened e e.pass []) is ∙ ap (λ b. cond b (first e m ∷ []) []) (eq-eqb e.pass e.pass refl) in
      let rest = tread_on plan (step plan opened e) e.pass (trodden plan opened e e.pass []) es in
      (rest.0, trail_more plan opened e.pass [] e es ∙ (rest.1 ∙ ap (λ z. z ++ rest.0) one))

  -- an event that was skipped first changes no trail
  still : (e : Event) (es : List Event) (a : ℕ) → row_of_event plan opened e ≡ None
      → trail_of plan (e ∷ es) a ≡ trail_of plan es a
  still e es a none =
      trail_more plan opened a [] e es
      ∙ (ap (λ w. trail_from plan w a (trodden plan opened e a []) es) (skipped plan opened e none)
      ∙ ap (λ s. trail_from plan opened a s es) (ap (treads opened e a []) none))

  -- if the pass did one step, and no other pass did any, the step met no owner
  abbrev MeetsNone : List Event → Type 0
  MeetsNone es = length (trail_of plan es pass) ≡ 1
      → ((q : ℕ) → q < plan.passes → q ≢ pass → trail_of plan es q ≡ []) → owner_met shard (trail_of plan es pass) ≡ 0

  by_pass : (e : Event) (m : Row) (es : List Event) → row_of_event plan opened e ≡ Some m → e.pass ≡ pass
      → length (trail_of plan (e ∷ es) pass) ≡ 1 → owner_met shard (trail_of plan (e ∷ es) pass) ≡ 0
  by_pass e m es is own one =
      let at = begins e m es is in
      let mine : trail_of plan (e ∷ es) pass ≡ first e m ∷ at.0 =
      subst (λ a. trail_of plan (e ∷ es) a ≡ first e m ∷ at.0) own at.1 in
      go at.0 (ap length mine) mine
    where
      go : (more : List Footstep) → length (trail_of plan (e ∷ es) pass) ≡ length (first e m ∷ more)
          → trail_of plan (e ∷ es) pass ≡ first e m ∷ more → owner_met shard (trail_of plan (e ∷ es) pass) ≡ 0
      go [] long mine =
          let grown = counts_grow (meets_owner shard) [] (first e m) in
          let start : owner_met shard [] ≡ 0 = refl in
          let none : if1 (meets_owner shard (first e m)) ≡ 0 = ap if1 (meets_none shard e.action m) in
          ap (owner_met shard) mine ∙ omega (arith, grown, start, none)
      go (t ∷ ts) long mine = absurd (omega (arith, one, long))

  one_more : (e : Event) (es : List Event) → MeetsNone es → MeetsNone (e ∷ es)
  one_more e es rest one others = go (row_of_event plan opened e) refl
    where
      go : (o : Option Row) → row_of_event plan opened e ≡ o → owner_met shard (trail_of plan (e ∷ es) pass) ≡ 0
      go None is =
          let same = still e es pass is in
          ap (owner_met shard) same ∙ rest (ap length (sym same) ∙ one)
          (λ q few other. sym (still e es q is) ∙ others q few other)
      go (Some m) is = ⊎_elim (λ own. by_pass e m es is own one) (λ (other : e.pass ≢ pass).
          let at = begins e m es is in
          let few : e.pass < length (replicate plan.passes newcomer) = is_of_pass plan opened e m is in
          let none = ap length (sym (others e.pass (omega (arith, few, length-replicate plan.passes newcomer)) other)
          ∙ at.1) in
          absurd (omega (arith, none))) (cases_eq e.pass pass)

  pub only_step_meets_none : (es : List Event) → MeetsNone es
  only_step_meets_none [] one others = ap (owner_met shard) (trail_none plan opened pass)
  only_step_meets_none (e ∷ es) one others = one_more e es (only_step_meets_none es) one others
