-- The output of mode heap.
use Rattle.std.proofs.Common.{ℕ, Bool, true, List}
use Rattle.script_output.specs.declared.mode.Mode.TheVariants as mode
use Rattle.script_heap.specs.HeapOutput.{IsHeap}
use Rattle.script_beside.proofs.Beside.{heap_is_beside_plain}
use Rattle.sh_replay.specs.Output.{IsOutput}

-- the replies of a run in one thread are beside those of mode plain
pub output_of_heap : (asked : Bool) (text output : List ℕ) → IsHeap true asked text output
    → IsOutput mode.Heap asked text output
output_of_heap asked text output h = (h, heap_is_beside_plain asked text output h)
