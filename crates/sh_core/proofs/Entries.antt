-- A pass has as many entries in the log as steps that decided a call, and the log grows at its end.
use Rattle.std.proofs.Common.{◌≡◌, ◌≢◌, ℕ, ◌+◌, ◌==◌, Bool, true, false, cond, List, [], ◌∷◌, ◌++◌, length, refl, ap}
use Rattle.std.proofs.Common.{sym, ◌∙◌, subst, Option, Some, None, slice_get, append_assoc, append-nil, eqb-true}
use Rattle.std.proofs.Common.{eq-eqb, ne_eqb, arith}
use Rattle.std.specs.Prelude.{filter, is_some}
use Rattle.std.proofs.lemmas.List.{length-append}
use Rattle.std.proofs.lemmas.List.Elements.{filter-append}
use Rattle.std.proofs.lemmas.Option.{none-some}
use Rattle.sh_history.specs.declared.entry.Entry.{Entry}
use Rattle.sh_history.specs.Log.{pass_of}
use Rattle.sh_step.specs.declared.action.Action.{Action}
use Rattle.sh_step.specs.declared.action.Event.{Event}
use Rattle.sh_step.specs.declared.body.Body.{Body}
use Rattle.sh_step.specs.declared.footstep.Footstep.{Footstep}
use Rattle.sh_step.specs.declared.operation.Operation.{Operation}
use Rattle.sh_step.specs.declared.operation.Operation.TheVariants.{FetchAdd, FetchSub, FetchOr, Swap, Store}
use Rattle.sh_step.specs.declared.operation.Operation.TheVariants.{CompareExchange, Load}
use Rattle.sh_step.specs.Collections.{if1}
use Rattle.sh_step.specs.Deciding.{decides}
use Rattle.sh_step.specs.Footsteps.{footstep_of}
use Rattle.sh_step.specs.Moves.{row}
use Rattle.sh_step.specs.Operations.{answer}
use Rattle.sh_step.specs.Plans.{Plan}
use Rattle.sh_step.specs.Rows.{Row}
use Rattle.sh_step.proofs.DecidingLaws.{deciding_replies}
use Rattle.sh_step.proofs.FootstepLaws.{counts_grow}
use Rattle.sh_core.specs.declared.outcome.Outcome.{Outcome}
use Rattle.sh_core.specs.Outcomes.{row_of_event, outcome_of, IsTold}
use Rattle.sh_core.specs.Trails.{trail_from, trail_of, word_found, decides_call, decided, log_of, StepsMakeEntries}
use Rattle.sh_core.specs.Words.{read}
use Rattle.sh_core.specs.Worlds.{World, run, run_from, step, open_world}
use Rattle.sh_core.proofs.Replays.{blind_step}
use Rattle.sh_core.proofs.WaitFree.{skipped}
use Rattle.sh_core.proofs.Words.DecidingEvents.{deciding_events}
use Rattle.sh_core.proofs.Words.Stepping.{row_of_past}
use Rattle.sh_core.proofs.Words.Steps.{run_snoc, row_of_at, trail_grows, others_trails_stay, skips_leave_trails}

-- ---- the word by which a step decides

-- whether a step with this operation decided a call
abbrev decides_by : Plan → Action → Row → ℕ → Operation → Bool
decides_by plan x r n o = decides plan x (word_found (record { action = x; place = r.place; answer = answer o n }))

-- the word that a trail has of a step decides as the word that was found
decides_found : (plan : Plan) (p : Body) (x : Action) (r : Row) (n : ℕ) → row plan p x ≡ Some r
    → decides_call plan (footstep_of x r n) ≡ decides plan x n
decides_found plan p x r n is = go r.operation refl
  where
    seen : ℕ
    seen = word_found (footstep_of x r n)

    go : (o : Operation) → r.operation ≡ o → decides_by plan x r n r.operation ≡ decides plan x n
    go (FetchAdd m) e = ap (decides_by plan x r n) e
    go (FetchSub m) e = ap (decides_by plan x r n) e
    go (FetchOr m) e = ap (decides_by plan x r n) e
    go (Swap m) e = ap (decides_by plan x r n) e
    go (Store new) e = sym (deciding_replies plan p x r seen is)
        ∙ (ap is_some (blind_step plan p x r is new e seen n).1 ∙ deciding_replies plan p x r n is)
    go (CompareExchange old new) e = ap (decides_by plan x r n) e
    go Load e = ap (decides_by plan x r n) e

-- ---- what an event adds to the entries of a pass

-- the entries of pass a
abbrev pub entries : ℕ → List Entry → List Entry
entries a log = filter (λ (e : Entry). pass_of e == a) log

one_longer : (a : ℕ) (log : List Entry) (t : Entry)
    → length (entries a (log ++ t ∷ [])) ≡ length (entries a log) + length (entries a (t ∷ []))
one_longer a log t = ap (λ (l : List Entry). length l) (filter-append (λ (e : Entry). pass_of e == a) log (t ∷ []))
    ∙ length-append (entries a log) (entries a (t ∷ []))

-- an event of pass a adds one entry of it if the event decided a call, and none otherwise
told_own : (a : ℕ) (d : Bool) (w v : World) (e : Event) (o : Outcome) → IsTold d w v e o → e.pass ≡ a
    → length (log_of a v) ≡ length (log_of a w) + if1 d
told_own a true w v e o h own =
    let one : length (entries a (h.0 ∷ [])) ≡ 1 = ap (λ (b : Bool). length (cond b (h.0 ∷ []) []))
    (eq-eqb (pass_of h.0) a (h.2 ∙ own)) in
    ap (λ (l : List Entry). length (entries a l)) h.3
    ∙ (one_longer a w.log h.0 ∙ ap (λ (n : ℕ). length (log_of a w) + n) one)
told_own a false w v e o h own =
    let same : length (log_of a v) ≡ length (log_of a w) = ap (λ (l : List Entry). length (entries a l)) h.1 in
    let none : if1 false ≡ 0 = refl in
    omega (arith, same, none)

-- an event of another pass adds none
told_else : (a : ℕ) (d : Bool) (w v : World) (e : Event) (o : Outcome) → IsTold d w v e o → e.pass ≢ a
    → length (log_of a v) ≡ length (log_of a w)
told_else a true w v e o h other =
    let none : length (entries a (h.0 ∷ [])) ≡ 0 = ap (λ (b : Bool). length (cond b (h.0 ∷ []) []))
    (ne_eqb (pass_of h.0) a (λ same. other (sym h.2 ∙ same))) in
    let more : length (log_of a v) ≡ length (log_of a w) + length (entries a (h.0 ∷ [])) =
    ap (λ (l : List Entry). length (entries a l)) h.3 ∙ one_longer a w.log h.0 in
    omega (arith, none, more)
told_else a false w v e o h other = ap (λ (l : List Entry). length (entries a l)) h.1

-- ---- one more event

abbrev HasEntries : Plan → List Event → ℕ → Type 0
HasEntries plan es a = length (log_of a (run plan es)) ≡ decided plan (trail_of plan es a)

one_event_adds : (plan : Plan) (es : List Event) (e : Event) (a : ℕ) → HasEntries plan es a
    → HasEntries plan (es ++ e ∷ []) a
one_event_adds plan es e a so = go (row_of_event plan (run plan es) e) refl where
  w : World
  w = run plan es

  as_before : trail_of plan (es ++ e ∷ []) a ≡ trail_of plan es a
      → length (log_of a (run plan (es ++ e ∷ []))) ≡ length (log_of a w) → HasEntries plan (es ++ e ∷ []) a
  as_before trail log = log ∙ (so ∙ ap (decided plan) (sym trail))

  next : run plan (es ++ e ∷ []) ≡ step plan w e
  next = run_snoc plan (open_world plan) es e

  go : (o : Option Row) → row_of_event plan w e ≡ o → HasEntries plan (es ++ e ∷ []) a
  go None none = as_before (skips_leave_trails plan es e a none)
      (ap (λ (v : World). length (log_of a v)) (next ∙ skipped plan w e none))
  go (Some r) some = by (e.pass == a) refl where
    n : ℕ
    n = read w.words r.place

    told : IsTold (decides plan e.action n) w (step plan w e) e (outcome_of plan w e)
    told = deciding_events plan w e r some

    by : (b : Bool) → (e.pass == a) ≡ b → HasEntries plan (es ++ e ∷ []) a
    by true is = part (slice_get w.parts e.pass) refl where
      own : e.pass ≡ a
      own = eqb-true e.pass a is

      part : (o : Option Body) → slice_get w.parts e.pass ≡ o → HasEntries plan (es ++ e ∷ []) a
      part None at = absurd (none-some r (sym (row_of_past plan w e at) ∙ some))
      part (Some p) at =
          let its : row plan p e.action ≡ Some r = sym (row_of_at plan w e p at) ∙ some in
          let t : Footstep = footstep_of e.action r n in
          let grown : trail_of plan (es ++ e ∷ []) a ≡ trail_of plan es a ++ t ∷ [] = subst
          (λ (c : ℕ). trail_of plan (es ++ e ∷ []) c ≡ trail_of plan es c ++ t ∷ []) own
          (trail_grows plan es e.pass e.action p r at its) in
          let steps : decided plan (trail_of plan (es ++ e ∷ []) a)
          ≡ decided plan (trail_of plan es a) + if1 (decides plan e.action n) =
          ap (decided plan) grown ∙ (counts_grow (decides_call plan) (trail_of plan es a) t
          ∙ ap (λ (d : Bool). decided plan (trail_of plan es a) + if1 d) (decides_found plan p e.action r n its)) in
          let log : length (log_of a (run plan (es ++ e ∷ [])))
          ≡ length (log_of a w) + if1 (decides plan e.action n) =
          ap (λ (v : World). length (log_of a v)) next
          ∙ told_own a (decides plan e.action n) w (step plan w e) e (outcome_of plan w e) told own in
          log ∙ (ap (λ (k : ℕ). k + if1 (decides plan e.action n)) so ∙ sym steps)
    by false is =
        let other : e.pass ≢ a = λ same. let z : true ≡ false = sym (eq-eqb e.pass a same) ∙ is in cc in
        as_before (others_trails_stay plan es e a other) (ap (λ (v : World). length (log_of a v)) next
        ∙ told_else a (decides plan e.action n) w (step plan w e) e (outcome_of plan w e) told other)

-- ---- all events

entries_on : (plan : Plan) (es fs : List Event) (a : ℕ) → HasEntries plan es a → HasEntries plan (es ++ fs) a
entries_on plan es [] a so = subst (λ (ds : List Event). HasEntries plan ds a) (sym (append-nil es)) so
entries_on plan es (e ∷ fs) a so = subst (λ (ds : List Event). HasEntries plan ds a) (append_assoc es (e ∷ []) fs)
    (entries_on plan (es ++ e ∷ []) fs a (one_event_adds plan es e a so))

none_at_first : (plan : Plan) (a : ℕ) → HasEntries plan [] a
unfolding run_from trail_from
none_at_first plan a = refl

pub steps_make_entries : StepsMakeEntries
steps_make_entries plan es a = entries_on plan [] es a (none_at_first plan a)

-- ---- the log grows at its end

one_log : (plan : Plan) (w : World) (e : Event) → (more : List Entry) × ((step plan w e).log ≡ w.log ++ more)
one_log plan w e = go (row_of_event plan w e) refl where
  told : (d : Bool) (o : Outcome) → IsTold d w (step plan w e) e o
      → (more : List Entry) × ((step plan w e).log ≡ w.log ++ more)
  told true o h = (h.0 ∷ [], h.3)
  told false o h = ([], h.1 ∙ sym (append-nil w.log))

  go : (o : Option Row) → row_of_event plan w e ≡ o → (more : List Entry) × ((step plan w e).log ≡ w.log ++ more)
  go None none = ([], ap (λ (v : World). v.log) (skipped plan w e none) ∙ sym (append-nil w.log))
  go (Some r) some = told (decides plan e.action (read w.words r.place)) (outcome_of plan w e)
      (deciding_events plan w e r some)

-- more events leave the first entries of the log
pub log_goes_on : (plan : Plan) (es fs : List Event) → (more : List Entry)
    × ((run plan (es ++ fs)).log ≡ (run plan es).log ++ more)
log_goes_on plan es [] =
    ([], ap (λ (ds : List Event). (run plan ds).log) (append-nil es) ∙ sym (append-nil (run plan es).log))
log_goes_on plan es (e ∷ fs) =
    let one = one_log plan (run plan es) e in
    let rest = log_goes_on plan (es ++ e ∷ []) fs in
    let here : (run plan (es ++ e ∷ [])).log ≡ (run plan es).log ++ one.0 =
    ap (λ (v : World). v.log) (run_snoc plan (open_world plan) es e) ∙ one.1 in (
      one.0 ++ rest.0,
      ap (λ (ds : List Event). (run plan ds).log) (sym (append_assoc es (e ∷ []) fs))
          ∙ (rest.1 ∙ (ap (λ (l : List Entry). l ++ rest.0) here ∙ append_assoc (run plan es).log one.0 rest.0)),
    )
