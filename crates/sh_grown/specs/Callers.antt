-- What a caller has in the chunks that it has met, and what its calls on keys do.
use Rattle.std.specs.Prelude.{◌≡◌, ℕ, zero, suc, ◌<◌, ◌⊎◌, List, [], ◌∷◌, Option, Some, None, Result, Ok, Err, IsErrAnd}
use Rattle.std.specs.Prelude.{IsSome, IfSome}
use Rattle.std.specs.Prelude.{get_or, slice_get, slice_set}
use Rattle.once_cell.specs.Once.{cell_name}
use Rattle.sh_chunk.specs.Chunks.{chunked, key_within}
use Rattle.sh_value.specs.declared.hold.Hold.{Hold}
use Rattle.sh_value.specs.declared.refusal.Refusal.{Refusal}
use Rattle.sh_value.specs.declared.refusal.Refusal.TheVariants as refusal
use Rattle.sh_pass.specs.Passes.{Caller, IsAtRest, GetDoes}
use Rattle.sh_table.specs.Seats.{Heap}
use Rattle.sh_member.specs.declared.member.Side.TheVariants as side
use Rattle.sh_member.specs.Sides.{SeenSide}
use Rattle.sh_grown.specs.ChunkShapes.{IsShaped}
use Rattle.sh_grown.specs.Growing.{shape_in}
use Rattle.sh_grown.specs.declared.growing.Growing.{Growing}
use Rattle.sh_grown.specs.declared.chunk_member.ChunkMember.{ChunkMember}
use Rattle.sh_grown.specs.declared.caller.Caller.{Caller as SeenCaller}
use Rattle.sh_grown.specs.Keeping.{Nowhere, SamePlace, There}

-- what a caller has at first in a chunk that has this heap: the pass of this number, at rest, from its pool slot
pub record IsPooled (heap : Heap) (number : ℕ) (m : ChunkMember) : Type 0 where
  pub pass : Caller
  pub member : m.member ≡ side.Pass pass
  pub of : pass.heap ≡ heap
  pub own : pass.view.pass ≡ number
  pub below : number < heap.shape.passes
  pub rest : IsAtRest pass
  pub pool_slot : m.pool_slot ≡ number
  pub shards : m.shards ≡ heap.shape.shards

-- the same of the chunk in the cell of this number, whose heap the note knows: it has the shape of that chunk
pub record IsNewcomer (growing : Growing) (number chunk : ℕ) (m : ChunkMember) : Type 0 where
  pub heap : Heap
  pub pooled : IsPooled heap number m
  pub shape : IsShaped heap.shape (shape_in growing chunk)
  pub seen : m.note.known ≡ Some heap
  pub cell : IfSome (slice_get growing.cells.items chunk) (λ c. m.note.cell ≡ cell_name c)

-- what a caller has that was just claimed: the pass of its number in the first chunk, and nothing in any other
pub record IsClaimed (growing : Growing) (number : ℕ) (members : List (Option ChunkMember)) : Type 0 where
  pub first : ChunkMember
  pub newcomer : IsNewcomer growing number 0 first
  pub met : get_or members 0 None ≡ Some first
  pub others : (chunk : ℕ) → 0 < chunk → get_or members chunk None ≡ None

-- why a caller has no member in a chunk that it wants one in: memory was refused, or its pass is not there
abbrev pub WhyWithout : Refusal → Type 0
WhyWithout refusal.Memory = Unit {0}
WhyWithout refusal.Taken = Unit {0}
WhyWithout _ = ⊥

-- the members of a caller with this one in a chunk; in chunks before it that have no place yet there is none
abbrev pub met_in : (chunk : ℕ) → ChunkMember → List (Option ChunkMember) → List (Option ChunkMember)
met_in zero m [] = Some m ∷ []
met_in zero m (x ∷ xs) = Some m ∷ xs
met_in (suc n) m [] = None ∷ met_in n m []
met_in (suc n) m (x ∷ xs) = x ∷ met_in n m xs

-- the chunk was met before, or it is met now; nothing else changes
abbrev pub Meets : Growing → (number chunk : ℕ) → List (Option ChunkMember) → List (Option ChunkMember) → Type 0
Meets growing number chunk old new =
    (IsSome (get_or old chunk None) × (new ≡ old))
    ⊎ ((get_or old chunk None ≡ None) × (m : ChunkMember) × IsNewcomer growing number chunk m
    × (new ≡ met_in chunk m old))

-- the member in a chunk did this, and kept its place
abbrev pub MemberDoes : {A : Type 0} → (SeenSide → Result A Refusal → SeenSide → Type 0) → Option ChunkMember
    → Result A Refusal → Option ChunkMember → Type 0
MemberDoes does old answer new = There (λ m n. does m.member answer n.member × SamePlace m n) Nowhere old new

-- the member of this chunk, which the caller had met or met in this call, did it; all others are as they were
pub record ChunkDoes {A : Type 0} (does : SeenSide → Result A Refusal → SeenSide → Type 0) (growing : Growing)
    (number chunk : ℕ) (old : List (Option ChunkMember)) (answer : Result A Refusal) (new : List (Option ChunkMember)) :
    Type 0 where
  pub met : List (Option ChunkMember)
  pub meets : Meets growing number chunk old met
  pub after : Option ChunkMember
  pub does_it : MemberDoes does (get_or met chunk None) answer after
  pub others : new ≡ slice_set met chunk after

-- this holds of the member in a chunk, before a call and after it
abbrev pub MemberTakes : (SeenSide → SeenSide → Type 0) → Option ChunkMember → Option ChunkMember → Type 0
MemberTakes takes = There (λ m n. takes m.member n.member) Nowhere

-- why a chunk cannot be met: no chunk that is open has this number, or the caller's pass is not in the chunk's pool
abbrev pub WhyUnmet : Refusal → Type 0
WhyUnmet refusal.BadKey = Unit {0}
WhyUnmet refusal.Taken = Unit {0}
WhyUnmet _ = ⊥

-- a call on a key of this chunk: its member does it, or the caller has not met the chunk and cannot meet it now
abbrev pub GrownDoes : {A : Type 0} → (SeenSide → Result A Refusal → SeenSide → Type 0) → Growing
    → (number chunk : ℕ) → List (Option ChunkMember) → Result A Refusal → List (Option ChunkMember) → Type 0
GrownDoes does growing number chunk old answer new =
    ChunkDoes does growing number chunk old answer new
    ⊎ (IsErrAnd answer WhyUnmet × (get_or old chunk None ≡ None) × (new ≡ old))

-- a call in a chunk that the caller has to have met: its member there does it, or this refusal comes and all is as it
-- was
abbrev pub IfMemberDoes : {A : Type 0} → (SeenSide → Result A Refusal → SeenSide → Type 0) → (unmet : Refusal)
    → (chunk : ℕ) → List (Option ChunkMember) → Result A Refusal → List (Option ChunkMember) → Type 0
IfMemberDoes does unmet chunk old answer new =
    ((after : Option ChunkMember) × MemberDoes does (get_or old chunk None) answer after
    × (new ≡ slice_set old chunk after))
    ⊎ ((answer ≡ Err unmet) × (get_or old chunk None ≡ None) × (new ≡ old))

-- the hold that the member of the chunk gave, for a hold on the key with its chunk
abbrev pub hold_within : Result Hold Refusal → Result Hold Refusal
hold_within (Ok hold) = Ok (record { key = key_within hold.key })
hold_within (Err why) = Err why

-- a get by the member of the key's chunk, whose hold is on the key with its chunk
abbrev pub GetsIn : ℕ → Caller → Result Hold Refusal → Caller → Type 0
GetsIn key v answer w = GetDoes chunked (key_within key) v (hold_within answer) w

-- the caller has its number and its growing heap
pub record Stays (old new : SeenCaller) : Type 0 where
  pub growing : new.growing ≡ old.growing
  pub number : new.number ≡ old.number
