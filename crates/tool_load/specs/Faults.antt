-- The text of a fault.
use Rattle.std.specs.Prelude.{ℕ, List, codes}
use Rattle.sh_value.specs.Refusal.{refusal_name}
use Rattle.tool_load.specs.declared.fault.Fault.{Fault}
use Rattle.tool_load.specs.declared.fault.Fault.TheVariants.{Refused, Memory, Io, Late, TooMany}

-- the text of a fault
abbrev pub fault_text : Fault → List ℕ
fault_text (Refused refusal) = refusal_name refusal
fault_text Memory = codes "memory ran out"
fault_text Io = codes "the clock or the output failed"
fault_text Late = codes "a thread waited for too long"
fault_text TooMany = codes "the values do not fit one heap"
