-- The outcome of an event.
use Rattle.std.specs.Prelude.{◌≡◌, Bool, true, false, List, [], ◌∷◌, ◌++◌, Option, Some, None, slice_get}
use Rattle.sh_history.specs.declared.entry.Entry.{Entry}
use Rattle.sh_history.specs.Log.{pass_of}
use Rattle.sh_step.specs.declared.action.Event.{Event}
use Rattle.sh_step.specs.Deciding.{decides}
use Rattle.sh_step.specs.Plans.{Plan}
use Rattle.sh_step.specs.Moves.{row}
use Rattle.sh_step.specs.Rows.{Row}
use Rattle.sh_core.specs.declared.outcome.Outcome.{Outcome}
use Rattle.sh_core.specs.declared.outcome.Outcome.TheVariants.{Moved, Replied, Skipped}
use Rattle.sh_core.specs.Words.{read}
use Rattle.sh_core.specs.Worlds.{World, step, open_world, value_at_place, entry_of}

-- the row of an event, if there is such a pass and its condition holds
unfoldable pub row_of_event : Plan → World → Event → Option Row
row_of_event plan w e = elim (slice_get w.parts e.pass) [ Some p ↦ row plan p e.action | None ↦ None ]

-- a step that was done replied the entry that joined the log, if one did
abbrev pub done : Option Entry → Outcome
done (Some entry) = Replied entry
done None = Moved

unfoldable pub outcome_of : Plan → World → Event → Outcome
unfolding row_of_event
outcome_of plan w e = elim (row_of_event plan w e) [
  | Some m ↦ done (entry_of e.pass (value_at_place w.words m.place) (m.reply (read w.words m.place)))
  | None ↦ Skipped
]

-- the outcome of each event of a run, in order
unfoldable pub outcomes_from : Plan → World → List Event → List Outcome
outcomes_from plan w [] = []
outcomes_from plan w (e ∷ es) = outcome_of plan w e ∷ outcomes_from plan (step plan w e) es

abbrev pub outcomes : Plan → List Event → List Outcome
outcomes plan es = outcomes_from plan (open_world plan) es

-- If an event was done and decided a call, its outcome is a reply: one entry of its pass joined the log, and the reply
-- is that entry. If it decided no call, its outcome is `Moved`, and the log is as it was
abbrev pub IsTold : (decided : Bool) → (before after : World) → Event → Outcome → Type 0
IsTold true before after e outcome = (t : Entry) × (outcome ≡ Replied t) × (pass_of t ≡ e.pass)
    × (after.log ≡ before.log ++ t ∷ [])
IsTold false before after e outcome = (outcome ≡ Moved) × (after.log ≡ before.log)

-- each event that is done has such an outcome, whatever word it found
abbrev pub DecidingEventsReply : Type 0
DecidingEventsReply = (plan : Plan) (w : World) (e : Event) (m : Row) → row_of_event plan w e ≡ Some m
    → IsTold (decides plan e.action (read w.words m.place)) w (step plan w e) e (outcome_of plan w e)
