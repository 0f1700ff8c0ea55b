-- Faults of a script.
use Rattle.std.proofs.Common.{List, Ok}
use Rattle.sh_script.specs.Trouble.{FailsWith}
use Rattle.sh_script.specs.declared.header.Header.{Header}
use Rattle.sh_script.specs.declared.fault.Fault.{Fault}
use Rattle.sh_script.specs.declared.fault.Fault.TheVariants as fault
use Rattle.script_output.specs.Ends.{IsEndFault}

-- a script is refused only for want of memory
pub only_memory : {A : Type 0} (f : Fault) (header : Header) (lines : List A)
    → FailsWith {Y = Header × List A} f (Ok (header, lines)) → IsEndFault f
only_memory fault.Memory header lines h = tt
only_memory fault.Io header lines h = tt
only_memory fault.Waiting header lines h = cc
only_memory fault.BadShape header lines h = cc
only_memory (fault.Script n c) header lines h = cc
