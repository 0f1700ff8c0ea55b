-- The law: the answers of mode heap are beside those of mode plain.
use Rattle.std.specs.Prelude.{ℕ, Bool, true, List}
use Rattle.std.specs.List.{All}
use Rattle.sh_script.specs.HeaderMeaning.{layout_of}
use Rattle.sh_script.specs.declared.calls.CallLine.{CallLine}
use Rattle.script_heap.specs.HeapOutput.{IsHeap}
use Rattle.script_beside.specs.Beside.{AreBesidePlain}
use Rattle.script_beside.specs.Along.{NamesKey, AreAlongPlain}

-- The answers of mode heap in this output are beside those of mode plain. If no line has a key as a number, they go
-- along with mode plain's own run. Its answers are the same, except for the numbers of keys that inserts return.
pub record IsBesidePlain {asked : Bool} {text output : List ℕ} (heap : IsHeap true asked text output) : Type 0 where
  pub beside : AreBesidePlain (layout_of heap.header.layout) heap.header.shape heap.header.tag heap.lines
      heap.is_output.told.replies.answers
  pub along : All (λ (l : CallLine). NamesKey l.call) heap.lines
      → AreAlongPlain (layout_of heap.header.layout) heap.header.shape heap.header.tag heap.lines
      heap.is_output.told.replies.answers

-- this holds of each output of mode heap
abbrev pub HeapIsBesidePlain : Type 0
HeapIsBesidePlain = (asked : Bool) (text output : List ℕ) → (heap : IsHeap true asked text output) → IsBesidePlain heap
