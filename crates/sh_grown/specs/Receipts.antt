-- Receipts of a caller, over the chunks that it has met.
use Rattle.std.specs.Prelude.{◌≡◌, ℕ, ◌<◌, ◌≤◌, List, Option, Some, None, Result, Ok, Err, IsSome, IsSomeAnd}
use Rattle.std.specs.Prelude.{get_or, length}
use Rattle.std.specs.Option.{ForSome}
use Rattle.sh_chunk.specs.Chunks.{chunked}
use Rattle.sh_value.specs.declared.refusal.Refusal.{Refusal}
use Rattle.sh_value.specs.declared.refusal.Refusal.TheVariants as refusal
use Rattle.sh_member.specs.Sides.{IsReceiptBy, SeenSide, SideHeeds}
use Rattle.sh_grown.specs.ChunkShapes.{IsShaped}
use Rattle.sh_grown.specs.Growing.{shape_in}
use Rattle.sh_grown.specs.declared.growing.Growing.{Growing}
use Rattle.sh_grown.specs.declared.chunk_member.ChunkMember.{ChunkMember}
use Rattle.sh_grown.specs.declared.receipts.ChunkReceipt.{ChunkReceipt}
use Rattle.sh_grown.specs.Callers.{ChunkDoes, IsNewcomer, MemberDoes}
use Rattle.sh_grown.specs.Keeping.{There}
use Rattle.sh_grown.specs.OfChunks.{IsCellOf, heap_by}

-- ---- what a receipt covers

-- a receipt by the member of a chunk, with the note of the chunk's cell
pub record CoversMember (m : ChunkMember) (given : ChunkReceipt) : Type 0 where
  pub receipt : IsReceiptBy m.member given.receipt
  pub note : given.note ≡ m.note

-- the same of what a caller has in a chunk; there is no receipt, if the caller has not met the chunk
abbrev pub CoversPlace : Option ChunkMember → Option ChunkReceipt → Type 0
CoversPlace = There CoversMember (λ given. given ≡ None)

-- the same in each chunk below this one
abbrev pub CoversEach : (chunks : ℕ) → List (Option ChunkMember) → List (Option ChunkReceipt) → Type 0
CoversEach chunks members given =
    (chunk : ℕ) → chunk < chunks → CoversPlace (get_or members chunk None) (get_or given chunk None)

-- ---- of which growing heap it is

-- a receipt of the chunk of this number: the growing heap may have the chunk, and the note of its cell knows the heap
-- of the receipt, which has the shape of that chunk
pub record IsReceiptIn (growing : Growing) (chunk : ℕ) (given : ChunkReceipt) : Type 0 where
  pub few : chunk < length growing.cells.items
  pub cell : IsCellOf growing chunk given.note.cell
  pub heap : given.note.known ≡ Some given.receipt.heap
  pub shape : IsShaped given.receipt.heap.shape (shape_in growing chunk)

-- each is of the chunk of its number
abbrev pub AreReceiptsIn : Growing → List (Option ChunkReceipt) → Type 0
AreReceiptsIn growing given = (chunk : ℕ) → ForSome (get_or given chunk None) (λ r. IsReceiptIn growing chunk r)

-- ---- what a caller does that heeds it

-- the receipt is of the chunk that the caller has met here: both notes are of one cell, and each knows its heap
abbrev pub IsReceiptAt : ChunkReceipt → Option ChunkMember → Type 0
IsReceiptAt given there = IsSomeAnd there (λ m. (given.note.cell ≡ m.note.cell)
    × (given.note.known ≡ Some given.receipt.heap) × (m.note.known ≡ heap_by m.member) × IsSome m.note.known)

-- a member heeded the receipt
abbrev pub HeedsBy : ChunkReceipt → SeenSide → Result (Unit {0}) Refusal → SeenSide → Type 0
HeedsBy given m answer n = SideHeeds chunked given.receipt m n

-- the same of the member of a chunk, which kept its place
abbrev pub HeedsAt : ChunkReceipt → Option ChunkMember → Option ChunkMember → Type 0
HeedsAt given old new = MemberDoes (HeedsBy given) old (Ok tt) new

-- the member of this chunk, which the caller had met or met in this call, heeded it; all others are as they were
abbrev pub HeedsChunk : Growing → (number chunk : ℕ) → ChunkReceipt → List (Option ChunkMember)
    → List (Option ChunkMember) → Type 0
HeedsChunk growing number chunk given old new = ChunkDoes (HeedsBy given) growing number chunk old (Ok tt) new

-- what a caller has in a chunk that it had met, or that it meets now
abbrev pub MeetsAt : Growing → (number chunk : ℕ) → Option ChunkMember → Option ChunkMember → Type 0
MeetsAt growing number chunk (Some m) met = met ≡ Some m
MeetsAt growing number chunk None met = (m : ChunkMember) × IsNewcomer growing number chunk m × (met ≡ Some m)

-- what a caller has in a chunk heeded the receipt of the chunk, or there is none and it is as it was
abbrev pub HeedsPlace : Growing → (number chunk : ℕ) → Option ChunkReceipt → Option ChunkMember → Option ChunkMember
    → Type 0
HeedsPlace growing number chunk None old new = new ≡ old
HeedsPlace growing number chunk (Some given) old new =
    (met : Option ChunkMember) × MeetsAt growing number chunk old met × HeedsAt given met new

-- the same in each chunk below this one; those from it on are as they were
pub record HeedsBelow (growing : Growing) (number below : ℕ) (given : List (Option ChunkReceipt))
    (old new : List (Option ChunkMember)) : Type 0 where
  pub each : (chunk : ℕ) → chunk < below
      → HeedsPlace growing number chunk (get_or given chunk None) (get_or old chunk None) (get_or new chunk None)
  pub others : (chunk : ℕ) → below ≤ chunk → get_or new chunk None ≡ get_or old chunk None

-- The member of each chunk heeded the receipt of the chunk. Or the caller's pass is not in the pool of a chunk of which
-- there is a receipt, and which the caller had not met: then those below it heeded theirs, and the others are as they
-- were.
abbrev pub Heeds : Growing → (number : ℕ) → List (Option ChunkReceipt) → List (Option ChunkMember)
    → Result (Unit {0}) Refusal → List (Option ChunkMember) → Type 0
Heeds growing number given old (Ok _) new = HeedsBelow growing number (length given) given old new
Heeds growing number given old (Err why) new = (why ≡ refusal.Taken)
    × (below : ℕ) × IsSome (get_or given below None) × (get_or old below None ≡ None)
    × HeedsBelow growing number below given old new
