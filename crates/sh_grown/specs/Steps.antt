-- How many steps an insert of a caller takes at most, in each chunk and over all chunks.
use Rattle.std.specs.Prelude.{◌≡◌, ℕ, ◌+◌, ◌-◌, ◌*◌, ◌≤◌, ◌⊎◌, ◌==◌, Bool, true, if◌then◌else◌, List, Option, Some}
use Rattle.std.specs.Prelude.{None, IfSome, MatchOption, get_or, length}
use Rattle.sh_shape.specs.Places.{pages_of}
use Rattle.sh_chunk.specs.Chunks.{chunked}
use Rattle.sh_table.specs.Seats.{Heap}
use Rattle.sh_shard.specs.Bounds.{adopt_steps, insert_steps, leave_steps}
use Rattle.sh_shard.specs.Pages.{sum_below}
use Rattle.sh_shard.specs.RemoteFrees.{collect_steps}
use Rattle.sh_member.specs.SideBounds.{LeaveTakes}
use Rattle.sh_member.specs.declared.member.Side.TheVariants.{Pass, Shard}
use Rattle.sh_member.specs.Sides.{SeenSide, SideIsValid}
use Rattle.sh_grown.specs.declared.growing.Growing.{Growing}
use Rattle.sh_grown.specs.declared.chunk_member.ChunkMember.{ChunkMember}
use Rattle.sh_grown.specs.declared.caller.Caller.{Caller as SeenCaller}
use Rattle.sh_grown.specs.Callers.{IsNewcomer}
use Rattle.sh_grown.specs.Growing.{shape_in}
use Rattle.sh_grown.specs.Keeping.{There}
use Rattle.sh_grown.specs.OfChunks.{heap_by}

-- ---- the bound

-- The most steps that so many inserts of a value of this many words take, with so many collects and so many moves, in
-- shards that have this many pages. A move from one shard to another is a leave and an adoption.
abbrev pub steps_of : (inserts collects moves words pages : ℕ) → ℕ
steps_of inserts collects moves words pages =
    inserts * insert_steps pages words + collects * collect_steps pages
    + moves * (leave_steps pages + adopt_steps pages)

-- An insert over all chunks, in a chunk with this many shards: three inserts and a collect, and for each shard two
-- inserts, two collects and two moves besides.
abbrev pub chunk_most : (words shards pages : ℕ) → ℕ
chunk_most words shards pages = steps_of (3 + 2 * shards) (1 + 2 * shards) (2 * shards) words pages

-- the bound for the chunk of this number, which has the shape of that chunk
abbrev pub bound_of : Growing → (most : (shards pages : ℕ) → ℕ) → (chunk : ℕ) → ℕ
bound_of growing most chunk = most (shape_in growing chunk).shards (pages_of (shape_in growing chunk))

-- ---- of a member

-- how many steps its pass has taken
abbrev pub steps_by : SeenSide → ℕ
steps_by (Pass v) = length v.view.own.trail
steps_by (Shard o) = length o.pages.owner.view.own.trail

-- how many pages each shard of its heap has
abbrev pub pages_in : Option Heap → ℕ
pages_in None = 0
pages_in (Some heap) = pages_of heap.shape

-- it took at most so many steps, by the number of these pages
abbrev pub SideTakes : (most : (pages : ℕ) → ℕ) → SeenSide → SeenSide → Type 0
SideTakes most m n = steps_by n ≤ steps_by m + most (pages_in (heap_by m))

-- between its calls the member in a chunk has begun nothing, and all that it knows is true
abbrev pub RestsThere : Option ChunkMember → Type 0
RestsThere there = IfSome there (λ m. SideIsValid chunked m.member)

-- it is as it was, or it took at most the steps of a leave
abbrev pub LeavesThere : Option ChunkMember → Option ChunkMember → Type 0
LeavesThere = There (λ m n. (n.member ≡ m.member) ⊎ LeaveTakes m.member n.member) (λ after. after ≡ None)

-- this many steps were taken in a chunk: by what was there, or by what came as one of these
abbrev pub StepsThere : (new : ChunkMember → Type 0) → (steps : ℕ) → Option ChunkMember → Option ChunkMember → Type 0
StepsThere new steps = There (λ m n. steps ≡ steps_by n.member - steps_by m.member)
    (λ after. MatchOption after (steps ≡ 0)
    (λ n. (m : ChunkMember) × new m × (steps ≡ steps_by n.member - steps_by m.member)))

-- ---- of a caller

-- in each of these chunks, which may be met in the call, it took at most the steps of the bound, and none in others
abbrev pub Took : Growing → (number : ℕ) → (chosen : ℕ → Bool) → (most : (shards pages : ℕ) → ℕ)
    → List (Option ChunkMember) → List (Option ChunkMember) → Type 0
Took growing number chosen most old new = (chunk : ℕ) → (steps : ℕ)
    × StepsThere (IsNewcomer growing number chunk) steps (get_or old chunk None) (get_or new chunk None)
    × (steps ≤ (if chosen chunk then bound_of growing most chunk else 0))

abbrev pub Takes : (chosen : ℕ → Bool) → (most : (shards pages : ℕ) → ℕ) → SeenCaller → SeenCaller → Type 0
Takes chosen most a b = Took a.growing a.number chosen most a.met.items b.met.items

-- the same in one chunk alone, and in each
abbrev pub TakesIn : (chunk : ℕ) → (most : (shards pages : ℕ) → ℕ) → SeenCaller → SeenCaller → Type 0
TakesIn chunk most a b = Takes (λ other. other == chunk) most a b

abbrev pub TakesEach : (most : (shards pages : ℕ) → ℕ) → SeenCaller → SeenCaller → Type 0
TakesEach most a b = Takes (λ chunk. true) most a b

-- So over all chunks that the heap may have it took at most the sum of their bounds.
abbrev pub TakesInAll : (most : (shards pages : ℕ) → ℕ) → SeenCaller → SeenCaller → Type 0
TakesInAll most a b = (each : TakesEach most a b)
    × (sum_below (λ chunk. (each chunk).0) (length a.growing.cells.items)
    ≤ sum_below (bound_of a.growing most) (length a.growing.cells.items))
