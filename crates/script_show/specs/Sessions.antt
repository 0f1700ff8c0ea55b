-- The effect of a line of a script of events on a world.
use Rattle.std.specs.Prelude.{◌≡◌, ◌⊎◌, ℕ, Bool, true, false, List, [], ◌∷◌, ◌++◌, Option, Some, None}
use Rattle.sh_key.specs.Layout.{Layout}
use Rattle.sh_shape.specs.Shape.{Numbers, Fits}
use Rattle.sh_step.specs.declared.action.Event.{Event}
use Rattle.sh_core.specs.declared.outcome.Outcome.{Outcome}
use Rattle.sh_core.specs.declared.outcome.Outcome.TheVariants.{Skipped}
use Rattle.sh_core.specs.Kept.{KeptWorld}
use Rattle.sh_script.specs.declared.fault.Fault.{Fault}
use Rattle.sh_script.specs.declared.fault.Fault.TheVariants as fault
use Rattle.sh_script.specs.declared.header.Header.{Header}
use Rattle.sh_script.specs.Scripts.{IsEvents, IsEventsFault}
use Rattle.sh_step.specs.Kinds.{kind_of_action}
use Rattle.script_models.specs.StepsOutput.{event_shown, event_line}
use Rattle.script_models.specs.StepsKeys.{DoesEvent}
use Rattle.script_show.specs.declared.touched.Touched.{Touched}
use Rattle.script_show.specs.declared.touched.Touched.TheVariants.{Nothing}

-- the fault if a heap of this shape is not opened: it does not fit the layout, or memory is refused
abbrev pub RefusesHeap : Layout → Numbers → Fault → Type 0
RefusesHeap layout shape fault.BadShape = ¬ Fits layout shape
RefusesHeap layout shape fault.Memory = Fits layout shape
RefusesHeap layout shape _ = ⊥

-- nothing is touched, and there is a reason
abbrev pub has_reason : Touched → Bool
has_reason (Nothing _) = true
has_reason _ = false

abbrev pub is_skipped : Outcome → Bool
is_skipped Skipped = true
is_skipped _ = false

-- a reason is given for an event that is skipped, and for no other
abbrev pub TellsWhy : Touched → Outcome → Type 0
TellsWhy touched outcome = has_reason touched ≡ is_skipped outcome

-- the text is a script of events with this header
abbrev pub IsHeadedBy : List ℕ → Header → Type 0
IsHeadedBy text header = (events : List Event) × IsEvents text header events

-- the text is a script of events, and this is the last of them, if it has one
abbrev pub SaysLast : List ℕ → Option Event → Type 0
SaysLast text (Some e) = (header : Header) × (rest : List Event) × IsEvents text header (rest ++ e ∷ [])
SaysLast text None = (header : Header) × IsEvents text header []

-- The event is done, as the core's step does it, and its line of mode steps is written. If there is no event, nothing
-- is done or written.
abbrev pub DoesSaid : Layout → Option ℕ → KeptWorld → Option Event → KeptWorld → Option (List ℕ) → Type 0
DoesSaid layout tag before (Some e) after (Some line) = (outcome : Outcome)
    × DoesEvent layout before (event_shown tag e) outcome after
    × (line ≡ event_line tag e.pass (kind_of_action e.action) outcome)
DoesSaid layout tag before None after None = after ≡ before
DoesSaid layout tag before _ after _ = ⊥

-- the world does the last event of the text, and returns the text on it
pub record DoesLine (layout : Layout) (tag : Option ℕ) (text : List ℕ) (before after : KeptWorld)
    (told : Option (List ℕ)) : Type 0 where
  pub said : Option Event
  pub says : SaysLast text said
  pub does : DoesSaid layout tag before said after told

-- A text that is no script has its first fault, and nothing is done. Memory may be refused before the event is done, or
-- after it, for the text on it.
abbrev pub RefusesLine : Layout → Option ℕ → List ℕ → KeptWorld → KeptWorld → Fault → Type 0
RefusesLine layout tag text before after fault.Memory = (after ≡ before)
    ⊎ ((line : List ℕ) × DoesLine layout tag text before after (Some line))
RefusesLine layout tag text before after f = IsEventsFault text f × (after ≡ before)
