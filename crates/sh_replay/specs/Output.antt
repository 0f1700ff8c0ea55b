-- The output of a run of a script, in any mode.
use Rattle.std.specs.Prelude.{ℕ, Bool, true, false, List, Option, ◌⊎◌, Result, Ok, Err}
use Rattle.std.specs.Io.KnownBytes.{Appends, Keeps}
use Rattle.sh_script.specs.declared.fault.Fault.{Fault}
use Rattle.sh_script.specs.declared.fault.Fault.TheVariants as fault
use Rattle.script_output.specs.declared.mode.Mode.{Mode}
use Rattle.script_output.specs.declared.mode.Mode.TheVariants as mode
use Rattle.script_output.specs.Ends.{IsEndFault, WroteBeginning}
use Rattle.script_output.specs.Faults.{IsScriptOf, IsFaultOf}
use Rattle.script_models.specs.Output.{IsPlain, IsSteps}
use Rattle.script_heap.specs.HeapOutput.{IsHeap}
use Rattle.script_beside.specs.Law.{IsBesidePlain}

-- the text is a script of calls, and this is what mode heap may write for it: its answers are beside mode plain
abbrev pub IsHeapAlone : (accounts : Bool) → (text output : List ℕ) → Type 0
IsHeapAlone accounts text output = (heap : IsHeap true accounts text output) × IsBesidePlain heap

-- the text is a script of the mode, and this is what its run may write
abbrev pub IsOutput : Mode → (accounts : Bool) → (text output : List ℕ) → Type 0
IsOutput mode.Plain accounts text output = IsPlain text output
IsOutput mode.Steps accounts text output = IsSteps accounts text output
IsOutput mode.Heap accounts text output = IsHeapAlone accounts text output
IsOutput mode.Threads accounts text output = IsHeap false accounts text output

-- the text is a script, and the whole output of its run was written
pub record WritesOutput (mode : Mode) (accounts : Bool) (text : List ℕ) (old new : Option (List ℕ)) : Type 0 where
  pub output : List ℕ
  pub is_output : IsOutput mode accounts text output
  pub written : Appends old new output

-- the text is a script, and a proper beginning of what its run may write was written
pub record Begins (mode : Mode) (accounts : Bool) (text : List ℕ) (old new : Option (List ℕ)) : Type 0 where
  pub output : List ℕ
  pub is_output : IsOutput mode accounts text output
  pub written : WroteBeginning old new output

-- What a run that ends with a fault has written. It is nothing or a beginning of an output, and never a whole one, if a
-- read or a write failed; and otherwise nothing. The fault is never that an owner could not leave: all owners can.
abbrev pub Stops : Mode → (accounts : Bool) → List ℕ → Fault → Option (List ℕ) → Option (List ℕ) → Type 0
Stops mode accounts text fault.Waiting old new = ⊥
Stops mode accounts text fault.Io old new = Keeps old new ⊎ Begins mode accounts text old new
Stops mode accounts text f old new = Keeps old new

-- the run of a text ends with this fault
pub record Fails (mode : Mode) (accounts : Bool) (text : List ℕ) (f : Fault) (old new : Option (List ℕ)) : Type 0 where
  pub may : IsFaultOf mode text f
  pub answers : IsScriptOf mode text → IsEndFault f
  pub stops : Stops mode accounts text f old new

-- the run of a text ends with this result
abbrev pub Replays : Mode → (accounts : Bool) → List ℕ → Result (Unit {0}) Fault → Option (List ℕ) → Option (List ℕ)
    → Type 0
Replays mode accounts text (Ok _) old new = WritesOutput mode accounts text old new
Replays mode accounts text (Err f) old new = Fails mode accounts text f old new
