-- Scripts of calls and scripts of events.
use Rattle.std.specs.Prelude.{ℕ, List, [], Result, Ok}
use Rattle.sh_step.specs.declared.action.Event.{Event}
use Rattle.sh_script.specs.Names.{Binding}
use Rattle.sh_script.specs.Trouble.{◌>>=◌, GivesScript}
use Rattle.sh_script.specs.CallLines.{no_calls, call_added}
use Rattle.sh_script.specs.EventLines.{event_added}
use Rattle.sh_script.specs.CallMeaning.{SaysCall}
use Rattle.sh_script.specs.EventMeaning.{SaysEvent}
use Rattle.sh_script.specs.Script.{script_of}
use Rattle.sh_script.specs.Grammar.{IsScript, IsFault}
use Rattle.sh_script.specs.declared.fault.Fault.{Fault}
use Rattle.sh_script.specs.declared.header.Header.{Header}
use Rattle.sh_script.specs.declared.calls.CallLine.{CallLine}
use Rattle.sh_script.specs.declared.calls.Calls.{Calls}
use Rattle.sh_script.specs.declared.event.Events.{Events}

-- ---- calls

-- the text is a script with this header and these calls, which bind some names
abbrev pub IsCalls : List ℕ → Header → List CallLine → Type 0
IsCalls text header calls = (names : List Binding) × IsScript SaysCall no_calls text header
    (record { names = names; lines = calls })

-- the first fault of a script of calls
abbrev pub IsCallsFault : List ℕ → Fault → Type 0
IsCallsFault text f = IsFault SaysCall call_added no_calls text f

-- the calls of a text as it is read, or its first fault
abbrev pub calls_of : List ℕ → Result (Header × List CallLine) Fault
calls_of text = script_of call_added no_calls text >>= λ x. Ok (x.0, (x.1).lines)

-- what was returned for a script, unless memory ran out
abbrev pub GivesCalls : Result Calls Fault → Result (Header × List CallLine) Fault → Type 0
GivesCalls r read = GivesScript (λ c. (c.header, c.lines.items)) r read

-- ---- events

-- the text is a script with this header and these events
abbrev pub IsEvents : List ℕ → Header → List Event → Type 0
IsEvents text header events = IsScript SaysEvent [] text header events

-- the first fault of a script of events
abbrev pub IsEventsFault : List ℕ → Fault → Type 0
IsEventsFault text f = IsFault SaysEvent event_added [] text f

abbrev pub GivesEvents : Result Events Fault → Result (Header × List Event) Fault → Type 0
GivesEvents r read = GivesScript (λ e. (e.header, e.lines.items)) r read
