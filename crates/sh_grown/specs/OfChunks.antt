-- Which chunk each member of a caller is of.
use Rattle.std.specs.Prelude.{◌≡◌, ℕ, ◌<◌, List, Option, Some, None, IsSome, get_or, length, slice_get}
use Rattle.std.specs.Option.{ForSome}
use Rattle.once_cell.specs.Once.{cell_name}
use Rattle.sh_table.specs.Seats.{Heap}
use Rattle.sh_member.specs.Sides.{SeenSide}
use Rattle.sh_grown.specs.ChunkShapes.{IsShaped}
use Rattle.sh_grown.specs.Growing.{shape_in}
use Rattle.sh_grown.specs.declared.growing.Growing.{Growing}
use Rattle.sh_grown.specs.declared.chunk_member.ChunkMember.{ChunkMember}
use Rattle.sh_grown.specs.Keeping.{Kept, kept_by}

-- the heap of a member
abbrev pub heap_of : Option Kept → Option Heap
heap_of None = None
heap_of (Some kept) = Some kept.heap

abbrev pub heap_by : SeenSide → Option Heap
heap_by m = heap_of (kept_by m)

-- the cell of this name is that of the chunk, if the growing heap may have the chunk
abbrev pub IsCellOf : Growing → (chunk cell : ℕ) → Type 0
IsCellOf growing chunk cell = ForSome (slice_get growing.cells.items chunk) (λ c. cell ≡ cell_name c)

-- what a caller has in the chunk of this number, which the growing heap may have: its note is of the chunk's cell, and
-- knows the heap of its member, which has the shape of that chunk
pub record IsOfChunk (growing : Growing) (chunk : ℕ) (m : ChunkMember) : Type 0 where
  pub few : chunk < length growing.cells.items
  pub cell : IsCellOf growing chunk m.note.cell
  pub heap : m.note.known ≡ heap_by m.member
  pub known : IsSome m.note.known
  pub shape : ForSome m.note.known (λ h. IsShaped h.shape (shape_in growing chunk))
  pub shards : m.shards ≡ (shape_in growing chunk).shards

-- the same of each chunk that the caller has met
abbrev pub AreOfChunks : Growing → List (Option ChunkMember) → Type 0
AreOfChunks growing members = (chunk : ℕ) → ForSome (get_or members chunk None) (λ m. IsOfChunk growing chunk m)
