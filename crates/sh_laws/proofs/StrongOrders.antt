-- The log of a run is its replies in order, and only grows.
use Rattle.std.proofs.Common.{◌≡◌, Bool, true, false, List, [], ◌∷◌, ◌++◌, refl, ap, sym, ◌∙◌, Option, Some, None}
use Rattle.std.proofs.Common.{append_assoc, append-nil}
use Rattle.sh_history.specs.declared.entry.Entry.{Entry}
use Rattle.sh_step.specs.declared.action.Event.{Event}
use Rattle.sh_core.specs.declared.outcome.Outcome.{Outcome}
use Rattle.sh_core.specs.declared.outcome.Outcome.TheVariants.{Replied, Moved, Skipped}
use Rattle.sh_core.specs.Outcomes.{row_of_event, outcome_of, outcomes_from, IsTold}
use Rattle.sh_step.specs.Plans.{Plan, plan_of}
use Rattle.sh_step.specs.Rows.{Row}
use Rattle.sh_core.specs.Worlds.{World, run, run_from, step, open_world}
use Rattle.sh_core.proofs.Clauses.RunTheorem.{theorem}
use Rattle.sh_core.proofs.Entries.{log_goes_on}
use Rattle.sh_core.proofs.WaitFree.{skipped}
use Rattle.sh_core.proofs.Words.DecidingEvents.{deciding_events}
use Rattle.sh_core.proofs.Words.Stepping.{outcome_skipped}
use Rattle.sh_laws.specs.StrongOrders.{replies_of, StronglyLinearizable}

-- what an event leaves of the log, by its outcome
pub data Logs (w v : World) (o : Outcome) : Type 0 where
  adds : (t : Entry) → o ≡ Replied t → v.log ≡ w.log ++ t ∷ [] → Logs w v o
  moves : o ≡ Moved → v.log ≡ w.log → Logs w v o
  skips : o ≡ Skipped → v.log ≡ w.log → Logs w v o

pub logs : (plan : Plan) (w : World) (e : Event) → Logs w (step plan w e) (outcome_of plan w e)
logs plan w e = go (row_of_event plan w e) refl where
  told : (d : Bool) → IsTold d w (step plan w e) e (outcome_of plan w e) → Logs w (step plan w e) (outcome_of plan w e)
  told true h = adds h.0 h.1 h.3
  told false h = moves h.0 h.1

  go : (o : Option Row) → row_of_event plan w e ≡ o → Logs w (step plan w e) (outcome_of plan w e)
  go None none = skips (outcome_skipped plan w e none) (ap (λ (v : World). v.log) (skipped plan w e none))
  go (Some r) some = told _ (deciding_events plan w e r some)

-- the log with what one event adds, and with the replies of the others
one_more : (log : List Entry) (w v : World) (o : Outcome) (rest : List Outcome) → Logs w v o
    → log ≡ v.log ++ replies_of rest → log ≡ w.log ++ replies_of (o ∷ rest)
one_more log w v o rest (adds t is more) so =
    so ∙ (ap (λ (l : List Entry). l ++ replies_of rest) more
    ∙ (append_assoc w.log (t ∷ []) (replies_of rest) ∙ ap (λ (u : Outcome). w.log ++ replies_of (u ∷ rest)) (sym is)))
one_more log w v o rest (moves is same) so = so ∙ (ap (λ (l : List Entry). l ++ replies_of rest) same
    ∙ ap (λ (u : Outcome). w.log ++ replies_of (u ∷ rest)) (sym is))
one_more log w v o rest (skips is same) so = so ∙ (ap (λ (l : List Entry). l ++ replies_of rest) same
    ∙ ap (λ (u : Outcome). w.log ++ replies_of (u ∷ rest)) (sym is))

logged : (plan : Plan) (w : World) (es : List Event) → (run_from plan w es).log
    ≡ w.log ++ replies_of (outcomes_from plan w es)
unfolding run_from outcomes_from
logged plan w [] = sym (append-nil w.log)
logged plan w (e ∷ es) = one_more (run_from plan (step plan w e) es).log w (step plan w e) (outcome_of plan w e)
    (outcomes_from plan (step plan w e) es) (logs plan w e) (logged plan (step plan w e) es)

pub strongly_linearizable : StronglyLinearizable
strongly_linearizable layout shape a b f =
    let plan : Plan = plan_of layout shape in record {
      order = λ es. (run plan es).log;
      legal = λ es. (theorem layout shape a b f es).legal;
      replies = λ es. logged plan (open_world plan) es;
      begins = log_goes_on plan;
    }
