-- What mode steps writes for a script of events: a line for each, and then the accounts of the pages, if they are asked
-- for.
use Rattle.std.specs.Prelude.{ℕ, List, [], ◌∷◌, ◌++◌, Bool, cond, codes, decimal, Option, Some, None, option_map}
use Rattle.std.specs.List.{filter_map}
use Rattle.sh_history.specs.declared.entry.Entry.{Entry}
use Rattle.sh_history.specs.declared.entry.Entry.TheVariants.{Insert, Got, Gone, Crowded, Removed, Released, Seen}
use Rattle.sh_key.specs.Layout.{Layout}
use Rattle.sh_shape.specs.Shape.{Numbers}
use Rattle.sh_step.specs.declared.action.Action.{Action}
use Rattle.sh_step.specs.declared.action.Action.TheVariants as action
use Rattle.sh_step.specs.declared.action.Event.{Event}
use Rattle.sh_step.specs.declared.kind.ActionKind.{ActionKind}
use Rattle.sh_step.specs.Kinds.{kind_of_action, kind_name}
use Rattle.sh_step.specs.Plans.{plan_of}
use Rattle.sh_core.specs.declared.outcome.Outcome.{Outcome}
use Rattle.sh_core.specs.declared.outcome.Outcome.TheVariants.{Moved, Replied, Skipped}
use Rattle.sh_core.specs.Outcomes.{outcomes}
use Rattle.script_output.specs.Keys.{shown, key_shown}
use Rattle.script_output.specs.Numbers.{value_text}
use Rattle.script_output.specs.AccountLines.{accounts_after, accounts_text}

-- ---- the heap's events

-- the action that is written as this one: its key, if it names one, is written with the tag; none if it is not
abbrev pub action_shown : Option ℕ → Action → Option Action
action_shown tag (action.EnterGet k) = option_map action.EnterGet (key_shown tag k)
action_shown tag (action.EnterRemove k) = option_map action.EnterRemove (key_shown tag k)
action_shown tag (action.DropHold k) = option_map action.DropHold (key_shown tag k)
action_shown tag (action.ReadClass k) = option_map action.ReadClass (key_shown tag k)
action_shown tag (action.ReadLength k) = option_map action.ReadLength (key_shown tag k)
action_shown tag (action.ReadWord k i) = option_map (λ j. action.ReadWord j i) (key_shown tag k)
action_shown tag (action.Look k) = option_map action.Look (key_shown tag k)
action_shown tag a = Some a

abbrev pub event_shown : Option ℕ → Event → Option Event
event_shown tag e = option_map (λ (a : Action). record e { action = a }) (action_shown tag e.action)

-- the events of the heap that are written as these, in order
abbrev pub events_shown : Option ℕ → List Event → List Event
events_shown tag lines = filter_map (event_shown tag) lines

-- ---- event lines: `a KIND moved`, `a KIND skipped` or `a KIND ENTRY KEY`, and a newline

abbrev pub entry_name : Entry → List ℕ
entry_name (Insert a k v) = codes "Insert"
entry_name (Got a k v) = codes "Got"
entry_name (Gone a k) = codes "Gone"
entry_name (Crowded a k) = codes "Crowded"
entry_name (Removed a k) = codes "Removed"
entry_name (Released a k) = codes "Released"
entry_name (Seen a k v) = codes "Seen"

abbrev pub entry_key : Entry → ℕ
entry_key (Insert a k v) = k
entry_key (Got a k v) = k
entry_key (Gone a k) = k
entry_key (Crowded a k) = k
entry_key (Removed a k) = k
entry_key (Released a k) = k
entry_key (Seen a k v) = k

-- the value of an entry that has one
abbrev pub entry_value : Entry → List ℕ
entry_value (Seen a k v) = codes " " ++ value_text v
entry_value (Insert a k v) = codes " " ++ value_text v
entry_value (Got a k v) = codes " " ++ value_text v
entry_value _ = []

abbrev pub outcome_text : Option ℕ → Outcome → List ℕ
outcome_text tag Moved = codes "moved"
outcome_text tag Skipped = codes "skipped"
outcome_text tag (Replied e) = entry_name e ++ codes " " ++ decimal (shown tag (entry_key e)) ++ entry_value e

abbrev pub event_line : Option ℕ → (pass : ℕ) → ActionKind → Outcome → List ℕ
event_line tag pass kind outcome =
    decimal pass ++ codes " " ++ kind_name kind ++ codes " " ++ outcome_text tag outcome ++ codes "\n"

-- a line for each event of the script: for an event of the heap by the next outcome, and any other is skipped
unfoldable pub event_lines : Option ℕ → List Event → List Outcome → List ℕ
event_lines tag [] outcomes = []
event_lines tag (e ∷ lines) outcomes = elim (event_shown tag e) [
  | Some _ ↦ elim outcomes [
    | o ∷ rest ↦ event_line tag e.pass (kind_of_action e.action) o
        ++ event_lines tag lines rest
    | [] ↦ []
  ]
  | None ↦ event_line tag e.pass (kind_of_action e.action) Skipped ++ event_lines tag lines outcomes
]

-- ---- the output

-- the lines of the events' outcomes, and then, if they are asked for, the accounts after the events
abbrev pub steps_output : Layout → Numbers → Option ℕ → List Event → (asked : Bool) → List ℕ
steps_output layout shape tag lines asked =
    let plan = plan_of layout shape in
    let events = events_shown tag lines in
    event_lines tag lines (outcomes plan events)
    ++ cond asked (accounts_text shape (accounts_after plan events)) []
