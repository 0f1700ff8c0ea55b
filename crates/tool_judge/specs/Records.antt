-- The record of a pass.
use Rattle.std.specs.Prelude.{◌≡◌, ◌≢◌, ℕ, ◌⊎◌, List, [], ◌∷◌, ◌++◌, Option, Some, None, length, option_and_then}
use Rattle.std.specs.Prelude.{slice_get, slice_set, unwrap_or}
use Rattle.sh_value.specs.declared.hold.Hold.{Hold}
use Rattle.sh_value.specs.declared.refusal.Refusal.{Refusal}
use Rattle.sh_value.specs.declared.refusal.Refusal.TheVariants as refusal
use Rattle.history_timed.specs.Times.{Times}
use Rattle.tool_judge.specs.declared.fault.Call.{Call}
use Rattle.tool_judge.specs.declared.fault.Fault.{Fault}
use Rattle.tool_judge.specs.declared.fault.Fault.TheVariants as fault
use Rattle.tool_judge.specs.declared.fault.Wrong.TheVariants as wrong
use Rattle.tool_judge.specs.declared.line.Line.{Line}
use Rattle.tool_judge.specs.declared.line.Told.{Told}
use Rattle.tool_judge.specs.declared.line.Told.TheVariants.{Got, Seen}
use Rattle.tool_judge.specs.declared.counts.Count.TheVariants as count
use Rattle.tool_judge.specs.declared.record.Held.{Held}
use Rattle.tool_judge.specs.declared.record.Record.{Record}
use Rattle.tool_judge.specs.declared.walk.Walk.{Walk}
use Rattle.tool_judge.specs.declared.end.End.{End}
use Rattle.tool_judge.specs.Counts.{counted}
use Rattle.tool_judge.specs.Pattern.{IsPattern}

-- the fault that a refusal is: a lack of memory, or a refusal that no heap may give
abbrev pub refusal_fault : ℕ → Call → Refusal → Fault
refusal_fault pass call refusal.Memory = fault.Memory
refusal_fault pass call why = fault.Wrong (wrong.Refused pass call why)

-- the fault of a record after another one is noted: the first one stays
abbrev pub first_fault : Record → Fault → Option Fault
first_fault record' new = Some (unwrap_or record'.fault new)

-- the line is added behind the others
pub record HasLine (old new : Record) (line : Line) : Type 0 where
  pub lines : new.lines.items ≡ old.lines.items ++ line ∷ []
  pub fault : new.fault ≡ old.fault

-- no line is added, and it is noted that memory was refused
pub record LacksLine (old new : Record) : Type 0 where
  pub lines : new.lines.items ≡ old.lines.items
  pub fault : new.fault ≡ first_fault old fault.Memory

abbrev pub IsTold : Record → Record → Line → Type 0
IsTold old new line = HasLine old new line ⊎ LacksLine old new

-- a hold was got: a new line says so, and the hold has the place of that line
pub record HasHold (old new : Record) (hold : Hold) (times : Times) : Type 0 where
  pub lines : new.lines.items
      ≡ old.lines.items ++ record { pass = old.pass; key = hold.key; times = times; told = Got None } ∷ []
  pub holds : new.holds.items ≡ old.holds.items ++ record { hold = hold; line = length old.lines.items } ∷ []
  pub fault : new.fault ≡ old.fault

-- a walk is noted behind the others, or that memory was refused
abbrev pub HasWalk : (old new : Record) → Walk → Type 0
HasWalk old new walk =
    (new.walks.items ≡ old.walks.items ++ walk ∷ []) ⊎ (new.fault ≡ first_fault old fault.Memory)

-- an end is noted behind the others, or that memory was refused
abbrev pub HasEnd : (old new : Record) → End → Type 0
HasEnd old new end =
    (new.ends.items ≡ old.ends.items ++ end ∷ []) ⊎ (new.fault ≡ first_fault old fault.Memory)

-- the value of a get, if it was read
abbrev pub value_told : Told → Option (List ℕ)
value_told (Got value) = value
value_told _ = None

-- the value that was read of a hold, by its line
abbrev pub value_read : Record → Held → Option (List ℕ)
value_read record' held =
    option_and_then (λ (line : Line). value_told line.told) (slice_get record'.lines.items held.line)

-- a fault is noted, unless there was one before, and no line changes
pub record FindsFault (old new : Record) (found : Fault) : Type 0 where
  pub fault : new.fault ≡ first_fault old found
  pub lines : new.lines.items ≡ old.lines.items

-- the line of the hold has the value that was read, and each other line stays
pub record TellsValue (old new : Record) (held : Held) (value : List ℕ) : Type 0 where
  pub fault : new.fault ≡ old.fault
  pub line : (line : Line) → slice_get old.lines.items held.line ≡ Some line
      → new.lines.items ≡ slice_set old.lines.items held.line (record line { told = Got (Some value) })
  pub none : slice_get old.lines.items held.line ≡ None → new.lines.items ≡ old.lines.items

-- the effect of a look: the value is torn, or a new line has it
pub record Sees (old new : Record) (key : ℕ) (times : Times) (value : List ℕ) : Type 0 where
  pub torn : ¬ IsPattern value → FindsFault old new (fault.Wrong (wrong.Torn old.pass key))
  pub noted : IsPattern value → IsTold old new (record { pass = old.pass; key = key; times = times; told = Seen value })
  pub counts : new.counts ≡ counted count.Looks 1 old.counts
  pub pass : new.pass ≡ old.pass
  pub holds : new.holds ≡ old.holds

-- the effect of a read of a hold: the value is torn, or differs from the one that was read before, or is noted
pub record Reads (old new : Record) (held : Held) (value : List ℕ) : Type 0 where
  pub torn : ¬ IsPattern value → FindsFault old new (fault.Wrong (wrong.Torn old.pass held.hold.key))
  pub changed : IsPattern value → (before : List ℕ) → value_read old held ≡ Some before → before ≢ value
      → FindsFault old new (fault.Wrong (wrong.Changed old.pass held.hold.key))
  pub noted : IsPattern value → ((before : List ℕ) → value_read old held ≡ Some before → before ≡ value)
      → TellsValue old new held value
  pub counts : new.counts ≡ counted count.Reads 1 old.counts
  pub pass : new.pass ≡ old.pass
  pub holds : new.holds ≡ old.holds
