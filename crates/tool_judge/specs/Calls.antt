-- The calls that the lines of a record tell of.
use Rattle.std.specs.Prelude.{◌≡◌, ◌++◌, ◌==◌, ℕ, Bool, false, if◌then◌else◌, List, Option, Some, None, map}
use Rattle.sh_history.specs.declared.entry.Entry.TheVariants as entry
use Rattle.history_timed.specs.declared.call.Call.{Call}
use Rattle.history_timed.specs.declared.call.Said.{Said}
use Rattle.history_timed.specs.declared.call.Said.TheVariants.{Known, Unread}
use Rattle.tool_judge.specs.declared.line.Line.{Line}
use Rattle.tool_judge.specs.declared.line.Told.{Told}
use Rattle.tool_judge.specs.declared.line.Told.TheVariants.{Inserted, Got, Seen, Gone, Crowded, Removed, Marked}
use Rattle.tool_judge.specs.declared.line.Told.TheVariants.{Released}

abbrev pub told_by : Bool → (pass key : ℕ) → Told → Said
told_by is_remover pass key (Inserted value) = Known (entry.Insert pass key value)
told_by is_remover pass key (Got (Some value)) = Known (entry.Got pass key value)
told_by is_remover pass key (Got None) = Unread pass key
told_by is_remover pass key (Seen value) = Known (entry.Seen pass key value)
told_by is_remover pass key Gone = Known (entry.Gone pass key)
told_by is_remover pass key Crowded = Known (entry.Crowded pass key)
told_by is_remover pass key Removed = Known (entry.Removed pass key)
told_by is_remover pass key Marked = Known (if is_remover then entry.Removed pass key else entry.Gone pass key)
told_by is_remover pass key Released = Known (entry.Released pass key)

-- what the line says. A mark by hand removed the key, or found it removed
abbrev pub said_of : Bool → Line → Said
said_of is_remover line = told_by is_remover line.pass line.key line.told

-- the moment, if it is one, is that at which the call of the line began
abbrev pub is_begin : Option ℕ → Line → Bool
is_begin None line = false
is_begin (Some moment) line = moment == line.times.begin

-- the call of a line, if the mark by hand that began at this moment removed the key. Its number is when it began
abbrev pub call_of : Option ℕ → Line → Call
call_of mark line =
    record { line = line.times.begin; times = line.times; said = said_of (is_begin mark line) line }

-- these are the calls of the lines, in their order
abbrev pub AreCallsOf : List Line → List Call → Type 0
AreCallsOf lines calls = (mark : Option ℕ) × (calls ≡ map (call_of mark) lines)

-- the calls of the lines stand behind the others
abbrev pub AddsCalls : List Line → (old new : List Call) → Type 0
AddsCalls lines old new = (mark : Option ℕ) × (new ≡ old ++ map (call_of mark) lines)
