-- Which texts are scripts of a mode, and which faults a run of a text may end with.
use Rattle.std.specs.Prelude.{ℕ, List}
use Rattle.sh_step.specs.declared.action.Event.{Event}
use Rattle.sh_script.specs.Scripts.{IsCalls, IsCallsFault, IsEvents, IsEventsFault}
use Rattle.sh_script.specs.declared.calls.CallLine.{CallLine}
use Rattle.sh_script.specs.declared.header.Header.{Header}
use Rattle.sh_script.specs.declared.fault.Fault.{Fault}
use Rattle.sh_script.specs.declared.fault.Fault.TheVariants as fault
use Rattle.script_output.specs.declared.mode.Mode.{Mode}
use Rattle.script_output.specs.declared.mode.Mode.TheVariants as mode

-- the text is a script of the mode
abbrev pub IsScriptOf : Mode → List ℕ → Type 0
IsScriptOf mode.Steps text = (header : Header) × (lines : List Event) × IsEvents text header lines
IsScriptOf _ text = (header : Header) × (lines : List CallLine) × IsCalls text header lines

-- the first fault of a text that is no script of the mode
abbrev pub IsScriptFault : Mode → List ℕ → Fault → Type 0
IsScriptFault mode.Steps text f = IsEventsFault text f
IsScriptFault _ text f = IsCallsFault text f

-- Memory may be refused, and a read or a write may fail, with any text. No run ends because an owner could not leave:
-- all owners can. Any other fault is the text's.
abbrev pub IsFaultOf : Mode → List ℕ → Fault → Type 0
IsFaultOf mode text fault.Memory = Unit {0}
IsFaultOf mode text fault.Io = Unit {0}
IsFaultOf mode text fault.Waiting = ⊥
IsFaultOf mode text f = IsScriptFault mode text f
