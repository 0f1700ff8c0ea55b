-- An event is skipped exactly if it has no row.
use Rattle.std.proofs.Common.{◌≡◌, false, refl, sym, ap, ◌∙◌, Option, Some, None, slice_get}
use Rattle.std.specs.Prelude.{is_none}
use Rattle.sh_history.specs.declared.entry.Entry.{Entry}
use Rattle.sh_step.specs.declared.action.Event.{Event}
use Rattle.sh_key.specs.Layout.{Layout}
use Rattle.sh_step.specs.Plans.{Plan, plan_of}
use Rattle.sh_step.specs.declared.body.Body.{Body}
use Rattle.sh_step.specs.Moves.{row}
use Rattle.sh_step.specs.Rows.{Row}
use Rattle.sh_core.specs.declared.outcome.Outcome.{Outcome}
use Rattle.sh_core.specs.declared.outcome.Outcome.TheVariants.{Skipped}
use Rattle.sh_core.specs.Words.{read}
use Rattle.sh_core.specs.Worlds.{World, run, entry_of, value_at_place}
use Rattle.sh_core.specs.Kept.{KeptWorld, Represents, FromEvents, StepsWorld}
use Rattle.sh_core.specs.Outcomes.{row_of_event, outcome_of, done}
use Rattle.script_show.specs.declared.touched.Touched.{Touched}
use Rattle.script_show.specs.Sessions.{has_reason, is_skipped, TellsWhy}

done_is : (x : Option Entry) → is_skipped (done x) ≡ false
done_is (Some _) = refl
done_is None = refl

pub skips : (plan : Plan) (w : World) (e : Event)
    → is_skipped (outcome_of plan w e) ≡ is_none (row_of_event plan w e)
unfolding outcome_of
skips plan w e = go (row_of_event plan w e) where
  go : (o : Option Row)
      → is_skipped (elim o as (λ _. Outcome) [
        | Some m ↦ done (entry_of e.pass (value_at_place w.words m.place)
            (m.reply (read w.words m.place)))
        | None ↦ Skipped
      ]) ≡ is_none o
  go (Some m) = done_is (entry_of e.pass (value_at_place w.words m.place) (m.reply (read w.words m.place)))
  go None = refl

-- the row of an event, for a pass with this body, or none if there is no such pass
at_body : (plan : Plan) (e : Event) (o : Option Body) → Option Row
at_body plan e o = elim o as (λ _. Option Row) [ Some p ↦ row plan p e.action | None ↦ None ]

pub row_of_body : (plan : Plan) (k : KeptWorld) (w : World) (e : Event) (p : Body) → Represents k w
    → slice_get k.parts e.pass ≡ Some p → row_of_event plan w e ≡ row plan p e.action
unfolding row_of_event at_body
row_of_body plan k w e p stands at =
    let here : slice_get w.parts e.pass ≡ Some p = rw (← stands.parts) at in
    ap (at_body plan e) here

pub row_of_none : (plan : Plan) (k : KeptWorld) (w : World) (e : Event) → Represents k w
    → slice_get k.parts e.pass ≡ None → row_of_event plan w e ≡ None
unfolding row_of_event at_body
row_of_none plan k w e stands at =
    let here : slice_get w.parts e.pass ≡ None = rw (← stands.parts) at in
    ap (at_body plan e) here

-- what a step of this event touched: it has a reason exactly if the event has no row
pub tells_why : (layout : Layout) (k k' : KeptWorld) (e : Event) (touched : Touched) (came : Outcome)
    → FromEvents layout k → ((w : World) → Represents k w
    → has_reason touched ≡ is_none (row_of_event (plan_of layout k.shape) w e)) → StepsWorld layout k e came k'
    → TellsWhy touched came
tells_why layout k k' e touched came from touches steps =
    let plan : Plan = plan_of layout k.shape in
    let w : World = run plan from.events in
    touches w from.stands ∙ sym (ap is_skipped (steps.outcome_is w from.stands) ∙ skips plan w e)
