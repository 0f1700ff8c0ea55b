-- Calls of passes, one after the other.
use Rattle.std.specs.Prelude.{◌≡◌, ◌==◌, ℕ, Bool, true, false, not, nat_eq, if◌then◌else◌, List, [], ◌∷◌, ◌++◌, Option}
use Rattle.std.specs.Prelude.{Some}
use Rattle.std.specs.Prelude.{None, Result, Ok, Err}
use Rattle.std.specs.Option.{option_or}
use Rattle.std.specs.HashMap.{get}
use Rattle.history_timed.specs.declared.call.Call.{Call}
use Rattle.history_timed.specs.Calls.{pass_said}
use Rattle.history_timed.specs.Times.{Times, ends_before}
use Rattle.history_lines.specs.declared.calls.Calls.{Calls}
use Rattle.history_lines.specs.declared.fault.Cause.TheVariants.{Overlap}
use Rattle.history_lines.specs.declared.fault.Trouble.{Trouble}
use Rattle.history_lines.specs.declared.fault.Trouble.TheVariants.{Memory, Because}

-- the times of the last call of the pass
abbrev pub last_by : ℕ → List Call → Option Times
last_by pass [] = None
last_by pass (call ∷ later) =
    option_or (last_by pass later) (if pass_said call.said == pass then Some call.times else None)

abbrev pub overlaps : Option Times → Times → Bool
overlaps None times = false
overlaps (Some last) times = not (ends_before last times)

-- the call does not begin after the last call of its pass ended
abbrev pub overlaps_last : List Call → Call → Bool
overlaps_last calls call = overlaps (last_by (pass_said call.said) calls) call.times

-- these are the calls so far
pub record HasCalls (store : Calls) (calls : List Call) : Type 0 where
  pub all_are : store.all.items ≡ calls
  pub last_are : (pass : ℕ) → get nat_eq store.last pass ≡ last_by pass calls

-- what came of one call more: it is added, or it overlaps the last of its pass, or memory was refused
abbrev pub CameOfCall : List Call → Call → Calls → Result (Unit {0}) Trouble → Type 0
CameOfCall calls call now (Ok _) = (overlaps_last calls call ≡ false) × HasCalls now (calls ++ call ∷ [])
CameOfCall calls call now (Err Memory) = Unit {0}
CameOfCall calls call now (Err (Because cause)) = (cause ≡ Overlap) × (overlaps_last calls call ≡ true)
