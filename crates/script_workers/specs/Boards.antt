-- Names on a board, and what comes with them.
use Rattle.std.specs.Prelude.{◌≡◌, Option, Some, None}
use Rattle.sh_table.specs.Seats.{Heap}
use Rattle.sh_pass.specs.Passes.{Caller}
use Rattle.script_calls.specs.InOrder.{Covers}
use Rattle.script_calls.specs.Parts.{SeenPass}
use Rattle.script_calls.specs.Receipts.{Heeds, seen_of_receipt}
use Rattle.script_workers.specs.declared.board.Bound.{Bound}

-- the receipt is of this heap, and covers the entries that the pass had that bound the name
pub record IsBinding (heap : Option Heap) (bound : Bound) (receipt : Caller) : Type 0 where
  pub heap_is : (seen_of_receipt receipt).heap ≡ heap
  pub covers : Covers (seen_of_receipt receipt).heard bound.pass bound.entries

-- the pass heeded a receipt that covers these entries
pub record HeardName (bound : Bound) (s t : SeenPass) : Type 0 where
  pub receipt : Caller
  pub heeds : Heeds receipt s t
  pub covers : Covers (seen_of_receipt receipt).heard bound.pass bound.entries

-- the same if there is a name; otherwise the pass is as it was
abbrev pub MayHearName : Option Bound → SeenPass → SeenPass → Type 0
MayHearName None s t = t ≡ s
MayHearName (Some bound) s t = HeardName bound s t
