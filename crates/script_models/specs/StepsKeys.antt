-- Keys in the outcome of an event, and the event that a line of a script does.
use Rattle.std.specs.Prelude.{◌≡◌, ℕ, ◌<◌, Option, Some, None}
use Rattle.sh_key.specs.Layout.{Layout}
use Rattle.sh_step.specs.declared.action.Event.{Event}
use Rattle.sh_core.specs.declared.outcome.Outcome.{Outcome}
use Rattle.sh_core.specs.declared.outcome.Outcome.TheVariants.{Replied, Skipped}
use Rattle.sh_core.specs.Kept.{KeptWorld, StepsWorld}
use Rattle.script_models.specs.StepsOutput.{entry_key}

-- a key that was replied is below this number
abbrev pub KeysWithin : ℕ → Outcome → Type 0
KeysWithin bound (Replied e) = entry_key e < bound
KeysWithin bound _ = Unit {0}

-- an event of the heap is done, and a line that is none is skipped
abbrev pub DoesEvent : Layout → KeptWorld → Option Event → Outcome → KeptWorld → Type 0
DoesEvent layout before (Some e) outcome after = StepsWorld layout before e outcome after
DoesEvent layout before None outcome after = (outcome ≡ Skipped) × (after ≡ before)
