-- How a chunk is opened outside an insert, and which chunks are open if none was.
use Rattle.std.specs.Prelude.{◌≡◌, ℕ, ◌<◌, Option, Some, None, IsSomeAnd, Result, Ok, Err, get_or, length}
use Rattle.sh_table.specs.Seats.{Heap}
use Rattle.sh_value.specs.declared.refusal.Refusal.{Refusal}
use Rattle.sh_value.specs.declared.refusal.Refusal.TheVariants as refusal
use Rattle.sh_grown.specs.declared.growing.Growing.{Growing}
use Rattle.sh_grown.specs.declared.opening.NotOpened.{NotOpened}
use Rattle.sh_grown.specs.declared.opening.NotOpened.TheVariants as unopened
use Rattle.sh_grown.specs.declared.opening.OpenChunks.{OpenChunks}
use Rattle.sh_grown.specs.Wholes.{IsChunkOf, SeenChunk}

-- the chunk of this number is open: the note knows which heap is in its cell, which has the shape of that chunk
abbrev pub IsOpen : Growing → (number cell : ℕ) → (known : Option Heap) → Type 0
IsOpen growing number cell known = (heap : Heap) × (known ≡ Some heap)
    × IsChunkOf growing (record { number = number; heap = heap; cell = cell })

-- so is each chunk below this one
abbrev pub AreOpen : Growing → (below : ℕ) → OpenChunks → Type 0
AreOpen growing below found = (number : ℕ) → number < below
    → IsSomeAnd (get_or found.notes.items number None) (λ note. IsOpen growing number note.cell note.known)

-- so is each chunk that the heap may have
abbrev pub AllOpen : Growing → OpenChunks → Type 0
AllOpen growing found = AreOpen growing (length growing.cells.items) found

-- a chunk of the growing heap is open; or each is, or memory was refused
abbrev pub OpensNext : Growing → Result SeenChunk NotOpened → Type 0
OpensNext growing (Ok chunk) = IsChunkOf growing chunk
OpensNext growing (Err (unopened.Full found)) = AllOpen growing found
OpensNext growing (Err unopened.Memory) = Unit {0}

-- the same, if the number alone is returned
abbrev pub OpensAhead : Growing → Result ℕ Refusal → Type 0
OpensAhead growing (Ok number) = (chunk : SeenChunk) × IsChunkOf growing chunk × (chunk.number ≡ number)
OpensAhead growing (Err refusal.Full) = (found : OpenChunks) × AllOpen growing found
OpensAhead growing (Err refusal.Memory) = Unit {0}
OpensAhead growing (Err _) = ⊥
