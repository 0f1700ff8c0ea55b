-- Workers that have ended: passes of the heap in the order of their numbers, each with all of its calls.
use Rattle.std.specs.Prelude.{◌≡◌, ℕ, List, Option, Some, slice_get, length}
use Rattle.sh_script.specs.declared.calls.CallLine.{CallLine}
use Rattle.script_calls.specs.Parts.{RunTerms, SeenPass, new_part}
use Rattle.script_workers.specs.declared.worker.Made.{Made}
use Rattle.script_workers.specs.Works.{IsWork}
use Rattle.sh_table.specs.Seats.{Heap}

-- passes 0 to n - 1 of the heap, and the calls that each made: all of its own among these lines
pub record HaveEnded (heap : Option Heap) (terms : RunTerms) (tag : Option ℕ) (lines : List CallLine) (n : ℕ)
    (sides : List SeenPass) (rests : List (List Made)) : Type 0 where
  pub sides_all : length sides ≡ n
  pub rests_all : length rests ≡ n
  pub each : (p : ℕ) (side : SeenPass) (made : List Made) → slice_get sides p ≡ Some side
      → slice_get rests p ≡ Some made → IsWork heap terms tag lines p (new_part heap p) side made
