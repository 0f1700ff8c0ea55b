-- What is reported of all chunks of a growing heap: which are open, and what their gathers and totals add up to.
use Rattle.std.specs.Prelude.{◌≡◌, ℕ, zero, suc, ◌+◌, ◌<◌, ◌⊎◌, List, Option, Some, None, IfSome, Result, Ok, Err}
use Rattle.std.specs.Prelude.{get_or, length, slice_get}
use Rattle.std.specs.Option.{ForSome}
use Rattle.once_cell.specs.Once.{cell_name}
use Rattle.sh_table.specs.Seats.{Heap}
use Rattle.sh_grown.specs.ChunkShapes.{IsShaped}
use Rattle.sh_grown.specs.Growing.{shape_in}
use Rattle.sh_grown.specs.declared.growing.Growing.{Growing}
use Rattle.sh_grown.specs.declared.receipts.ChunkReceipt.{ChunkReceipt}
use Rattle.sh_whole.specs.Homes.{GathersPool}
use Rattle.sh_whole.specs.declared.refusal.NotTold.{NotTold}
use Rattle.sh_whole.specs.declared.refusal.NotTold.TheVariants as untold

-- what a contract sees of a chunk that is open: its number, its heap, and the name of the cell that has it for good
pub record SeenChunk : Type 0 where
  pub number : ℕ
  pub heap : Heap
  pub cell : ℕ

-- the chunk is that of its number: its heap is in the cell of that number, and has the shape of that chunk
pub record IsChunkOf (growing : Growing) (chunk : SeenChunk) : Type 0 where
  pub few : chunk.number < length growing.cells.items
  pub cell : IfSome (slice_get growing.cells.items chunk.number) (λ c. chunk.cell ≡ cell_name c)
  pub shape : IsShaped chunk.heap.shape (shape_in growing chunk.number)

-- ---- as far as a receipt says which chunks are open

-- it is the chunk of this number; if the receipt covers that, it has the heap of the receipt
pub record IsToldChunk (growing : Growing) (given : List (Option ChunkReceipt)) (number : ℕ) (chunk : SeenChunk) :
    Type 0 where
  pub own : chunk.number ≡ number
  pub of : IsChunkOf growing chunk
  pub told : ForSome (get_or given number None) (λ r. chunk.heap ≡ r.receipt.heap)

-- the chunk of this number is found; or it was not found open, and the receipt does not cover it
abbrev pub FindsTold : Growing → List (Option ChunkReceipt) → (number : ℕ) → Option SeenChunk → Type 0
FindsTold growing given number (Some chunk) = IsToldChunk growing given number chunk
FindsTold growing given number None = get_or given number None ≡ None

-- the chunk of this number was found open, this holds of it, and it is counted
pub record CountsOpen (growing : Growing) (given : List (Option ChunkReceipt)) (IsSo : SeenChunk → Type 0)
    (number before count : ℕ) : Type 0 where
  pub chunk : SeenChunk
  pub is : IsToldChunk growing given number chunk
  pub so : IsSo chunk
  pub more : count ≡ before + 1

-- so were this many of the chunks below k; the others were not found open, and the receipt covers none of them
abbrev pub CountsBelow : Growing → List (Option ChunkReceipt) → (SeenChunk → Type 0) → ℕ → (count : ℕ) → Type 0
CountsBelow growing given IsSo zero count = count ≡ 0
CountsBelow growing given IsSo (suc k) count = (before : ℕ) × CountsBelow growing given IsSo k before
    × (((count ≡ before) × FindsTold growing given k None) ⊎ CountsOpen growing given IsSo k before count)

-- its passes were joined
abbrev pub IsGathered : SeenChunk → Type 0
IsGathered chunk = GathersPool chunk.heap (Ok tt)

-- nothing more is said of it
abbrev pub IsAny : SeenChunk → Type 0
IsAny chunk = Unit {0}

-- why not every chunk was gathered: a pass of one is missing, or memory was refused
abbrev pub WhyUngathered : NotTold → Type 0
WhyUngathered untold.Away = Unit {0}
WhyUngathered untold.Memory = Unit {0}
WhyUngathered untold.NoPage = ⊥
