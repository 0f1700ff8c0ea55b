-- A step of the code is the step of the world that it represents.
use Rattle.std.proofs.Common.{◌≡◌, ◌≢◌, ℕ, List, [], ◌∷◌, ◌++◌, get_or, set, sym, ap, ◌∙◌, subst, Option, Some, None}
use Rattle.std.proofs.Common.{slice_get}
use Rattle.sh_history.specs.declared.entry.Entry.{Entry}
use Rattle.sh_history.specs.History.{Legal}
use Rattle.std.specs.Prelude.{replicate}
use Rattle.sh_key.specs.Layout.{Layout, IsLayout}
use Rattle.sh_shape.specs.Shape.{Numbers, IsShape, Fits}
use Rattle.sh_shape.specs.Places.{IsPlace, number}
use Rattle.sh_step.specs.declared.action.Event.{Event}
use Rattle.sh_step.specs.declared.body.Body.{Body}
use Rattle.sh_step.specs.Operations.{operate}
use Rattle.sh_step.specs.Plans.{Plan, plan_of}
use Rattle.sh_step.specs.Moves.{row}
use Rattle.sh_step.specs.Rows.{Row}
use Rattle.sh_core.specs.declared.outcome.Outcome.{Outcome}
use Rattle.sh_core.specs.declared.outcome.Outcome.TheVariants.{Skipped}
use Rattle.sh_core.specs.Words.{read}
use Rattle.sh_core.specs.Worlds.{World, step, apply, run, run_from, open_world, joined, entry_of, value_at_place}
use Rattle.sh_step.specs.Parts.{newcomer}
use Rattle.sh_core.specs.Outcomes.{row_of_event, outcome_of, done}
use Rattle.sh_core.specs.Kept.{KeptWorld, Represents, FromEvents, OpensWith}
use Rattle.sh_core.proofs.Words.KeptWords.{hold_write}
use Rattle.sh_core.proofs.Clauses.RunTheorem.{legal_of}
use Rattle.sh_core.proofs.Words.Steps.{step_moves, step_skips, step_past, run_snoc}

-- what is kept after the row was done on the word n
abbrev pub moved : KeptWorld → ℕ → Row → ℕ → Option Entry → KeptWorld
moved k a m n new = record k {
  words = set k.words (number k.shape m.place) (operate m.operation n);
  parts = set k.parts
      a (m.part n);
  log = joined k.log new;
}

-- a row of a pass, at a place of the heap
pub stands_moves : (plan : Plan) (k : KeptWorld) (w : World) (e : Event) (p : Body) (m : Row) → Represents k w
    → slice_get k.parts e.pass ≡ Some p → row plan p e.action ≡ Some m → IsPlace k.shape m.place
    → (let n = get_or k.words (number k.shape m.place) 0 in Represents
    (moved k e.pass m n (entry_of e.pass (value_at_place w.words m.place) (m.reply n))) (step plan w e))
unfolding apply
stands_moves plan k w e p m s at is within =
    let here : slice_get w.parts e.pass ≡ Some p = rw (← s.parts) at in
    let f : get_or k.words (number k.shape m.place) 0 ≡ read w.words m.place = s.words.at m.place within in
    let v = value_at_place w.words m.place in
    let Q : World → Type 0 = λ u. Represents (moved k e.pass m (get_or k.words (number k.shape m.place) 0)
    (entry_of e.pass v (m.reply (get_or k.words (number k.shape m.place) 0)))) u in
    subst Q (sym (step_moves plan w e p m here is)) (record {
      words = rw f (hold_write k.shape k.words w.words m.place (operate m.operation (read w.words m.place)) s.words
          within);
      parts = λ i. set (s.parts i) e.pass (m.part (f i));
      log = λ i. joined (s.log i) (entry_of e.pass v (m.reply (f i)));
    })

-- an event that has no row
pub stands_skips : (plan : Plan) (k : KeptWorld) (w : World) (e : Event) (p : Body) → Represents k w
    → slice_get k.parts e.pass ≡ Some p → row plan p e.action ≡ None → Represents k (step plan w e)
stands_skips plan k w e p s at is =
    let here : slice_get w.parts e.pass ≡ Some p = rw (← s.parts) at in
    let Q : World → Type 0 = λ u. Represents k u in subst Q (sym (step_skips plan w e p here is)) s

pub stands_past : (plan : Plan) (k : KeptWorld) (w : World) (e : Event) → Represents k w → slice_get k.parts e.pass
    ≡ None → Represents k (step plan w e)
stands_past plan k w e s at =
    let here : slice_get w.parts e.pass ≡ None = rw (← s.parts) at in
    let Q : World → Type 0 = λ u. Represents k u in subst Q (sym (step_past plan w e here)) s

-- the outcome of the event
pub row_of_past : (plan : Plan) (w : World) (e : Event) → slice_get w.parts e.pass ≡ None → row_of_event plan w e ≡ None
unfolding row_of_event
row_of_past plan w e at = ap (λ (o : Option Body). elim o as (λ _. Option Row)
    [ Some p ↦ row plan p e.action | None ↦ None ]) at

pub outcome_done : (plan : Plan) (w : World) (e : Event) (m : Row) → row_of_event plan w e ≡ Some m
    → outcome_of plan w e ≡ done (entry_of e.pass (value_at_place w.words m.place) (m.reply (read w.words m.place)))
unfolding outcome_of
outcome_done plan w e m is = ap (λ (o : Option Row). elim o as (λ _. Outcome) [
  | Some m ↦ done (entry_of e.pass (value_at_place w.words m.place) (m.reply (read w.words m.place)))
  | None
      ↦ Skipped
]) is

pub outcome_skipped : (plan : Plan) (w : World) (e : Event) → row_of_event plan w e ≡ None → outcome_of plan w e
    ≡ Skipped
unfolding outcome_of
outcome_skipped plan w e is = ap (λ (o : Option Row). elim o as (λ _. Outcome) [
  | Some m ↦ done (entry_of e.pass (value_at_place w.words m.place) (m.reply (read w.words m.place)))
  | None
      ↦ Skipped
]) is

done_is : (o : Option Entry) → done o ≢ Skipped
done_is (Some e) h = cc
done_is None h = cc

pub outcome_not_skipped : (plan : Plan) (w : World) (e : Event) (m : Row) → row_of_event plan w e ≡ Some m
    → outcome_of plan w e ≢ Skipped
outcome_not_skipped plan w e m is h = done_is (entry_of e.pass (value_at_place w.words m.place)
    (m.reply (read w.words m.place))) (sym (outcome_done plan w e m is) ∙ h)

-- one more event
pub reached_on : (layout : Layout) (k k' : KeptWorld) (e : Event) → FromEvents layout k → k'.shape ≡ k.shape
    → ((w : World) → Represents k w → Represents k' (step (plan_of layout k.shape) w e)) → FromEvents layout k'
reached_on layout k k' e r same on =
    let plan : Plan = plan_of layout k.shape in
    let P : Numbers → Type 0 = λ n. Represents k' (run (plan_of layout n) (r.events ++ e ∷ [])) in
    let Q : World → Type 0 = λ u. Represents k' u in
    record {
      is_layout = r.is_layout;
      is_shape = rw same r.is_shape;
      fits = rw same r.fits;
      events = r.events ++ e ∷ [];
      stands = subst P (sym same) (subst Q (sym (run_snoc plan (open_world plan) r.events e))
          (on (run plan r.events) r.stands));
    }

-- the world as it opens
pub stands_open : (layout : Layout) (shape : Numbers) (words : List ℕ) (parts : List Body) (log : List Entry)
    → OpensWith layout shape words → parts ≡ replicate shape.passes newcomer → log ≡ []
    → Represents (record { shape = shape; words = words; parts = parts; log = log }) (open_world (plan_of layout shape))
stands_open layout shape words parts log o p l = record { words = o.words; parts = p; log = l }

pub reached_open : (layout : Layout) (k : KeptWorld) → IsLayout layout → IsShape k.shape → Fits layout k.shape
    → Represents k (open_world (plan_of layout k.shape)) → FromEvents layout k
unfolding run_from
reached_open layout k a b c s = record { is_layout = a; is_shape = b; fits = c; events = []; stands = s }

-- the log of what is kept is that of the run
pub reached_legal : (layout : Layout) (k : KeptWorld) → FromEvents layout k
    → Legal k.shape.passes layout.guard_max k.log
reached_legal layout k r = subst (Legal k.shape.passes layout.guard_max) (sym r.stands.log)
    (legal_of layout k.shape r.is_layout r.is_shape r.fits r.events)
