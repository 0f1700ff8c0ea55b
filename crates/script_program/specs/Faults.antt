-- How the program reports a fault.
use Rattle.std.specs.Prelude.{ℕ, ◌++◌, List, codes, decimal}
use Rattle.sh_script.specs.declared.fault.Cause.{Cause}
use Rattle.sh_script.specs.declared.fault.Cause.TheVariants as cause
use Rattle.sh_script.specs.declared.fault.Fault.{Fault}
use Rattle.sh_script.specs.declared.fault.Fault.TheVariants.{Memory, Waiting, BadShape, Script, Io}

-- the exit status after a fault: 2 if the script is at fault, and 3 if the run met the fault
abbrev pub status_of : Fault → ℕ
status_of BadShape = 2
status_of (Script line why) = 2
status_of Memory = 3
status_of Waiting = 3
status_of Io = 3

-- ---- the line on the standard error

abbrev pub cause_name : Cause → List ℕ
cause_name cause.Size = codes "Size"
cause_name cause.Cut = codes "Cut"
cause_name cause.Byte = codes "Byte"
cause_name cause.Header = codes "Header"
cause_name cause.Number = codes "Number"
cause_name cause.Pass = codes "Pass"
cause_name cause.Count = codes "Count"
cause_name cause.Command = codes "Command"
cause_name cause.Name = codes "Name"
cause_name cause.Bound = codes "Bound"
cause_name cause.Unbound = codes "Unbound"

abbrev pub script_line : (line : ℕ) → Cause → List ℕ
script_line line why =
    codes "shardheap: fault 14 Script line " ++ decimal line ++ codes " " ++ cause_name why ++ codes "\n"

abbrev pub fault_line : Fault → List ℕ
fault_line Memory = codes "shardheap: fault 8 Memory\n"
fault_line Waiting = codes "shardheap: fault 11 Waiting\n"
fault_line BadShape = codes "shardheap: fault 12 BadShape\n"
fault_line (Script line why) = script_line line why
fault_line Io = codes "shardheap: fault 15 Io\n"
