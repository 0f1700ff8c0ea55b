-- What an insert of a caller does over the chunks: the member of one chunk stores the value, or it is refused by each.
use Rattle.std.specs.Prelude.{◌≡◌, ◌≢◌, ℕ, ◌<◌, ◌⊎◌, Bool, true, false, ◌||◌, List, Option, Some, None}
use Rattle.std.specs.Prelude.{Result, Ok, Err, IfSome, IsSome, get_or, length, slice_set}
use Rattle.sh_chunk.specs.Chunks.{chunked, chunk_of, key_within}
use Rattle.sh_value.specs.declared.refusal.Refusal.{Refusal}
use Rattle.sh_value.specs.declared.refusal.Refusal.TheVariants as refusal
use Rattle.sh_member.specs.Sides.{SeenSide, SideInserts, SideCollects, IsPass}
use Rattle.sh_member.specs.SideBounds.{InsertTakes}
use Rattle.sh_grown.specs.declared.chunk_member.ChunkMember.{ChunkMember}
use Rattle.sh_grown.specs.declared.tried.Tried.{Tried}
use Rattle.sh_grown.specs.declared.tried.Tried.TheVariants.{Stored, Refused}
use Rattle.sh_grown.specs.Callers.{IfMemberDoes, MemberTakes}
use Rattle.sh_grown.specs.Keeping.{KeepsMembers}
use Rattle.sh_grown.specs.Refusals.{ChunkRefused, Did, LackedMemory, LacksMemory, OwnedFull, OwnsFull, WasRefused}

-- an insert by the member of a chunk, whose key is returned with the number of the chunk
abbrev pub InsertsIn : List ℕ → SeenSide → Result ℕ Refusal → SeenSide → Type 0
InsertsIn value m (Ok key) n = SideInserts chunked value m (Ok (key_within key)) n
InsertsIn value m (Err why) n = SideInserts chunked value m (Err why) n

-- the insert of a caller in one chunk: its member there does it, or it has none there and owns no shard
abbrev pub InsertsInChunk : List ℕ → (chunk : ℕ) → List (Option ChunkMember) → Result ℕ Refusal
    → List (Option ChunkMember) → Type 0
InsertsInChunk value chunk old answer new = IfMemberDoes (InsertsIn value) refusal.NoShard chunk old answer new

-- that insert takes at most the steps of the shard, and none if the caller has no member in the chunk
abbrev pub InsertTakesInChunk : List ℕ → (chunk : ℕ) → List (Option ChunkMember) → List (Option ChunkMember) → Type 0
InsertTakesInChunk value chunk old new =
    ((after : Option ChunkMember) × MemberTakes (InsertTakes (length value)) (get_or old chunk None) after
    × (new ≡ slice_set old chunk after))
    ⊎ ((get_or old chunk None ≡ None) × (new ≡ old))

-- the insert of a caller in one chunk was refused, and not for want of memory
abbrev pub InsertRefused : List ℕ → (chunk : ℕ) → List (Option ChunkMember) → List (Option ChunkMember) → Type 0
InsertRefused value chunk old new = (why : Refusal) × (why ≢ refusal.Memory)
    × InsertsInChunk value chunk old (Err why) new

-- the collect of a caller in one chunk: its member there does it, or it has none there and owns no shard
abbrev pub CollectsInChunk : (chunk : ℕ) → List (Option ChunkMember) → Result (Unit {0}) Refusal
    → List (Option ChunkMember) → Type 0
CollectsInChunk chunk old answer new = IfMemberDoes (SideCollects chunked) refusal.NoShard chunk old answer new

-- the caller has a member in the chunk
abbrev pub HasMet : List (Option ChunkMember) → ℕ → Type 0
HasMet members chunk = IsSome (get_or members chunk None)

-- At last the member of the key's chunk inserts the value, and no other member changes. Until then each member keeps
-- its heap, its number, its log and its holds.
abbrev pub EndsWithInsert : List ℕ → (key : ℕ) → List (Option ChunkMember) → List (Option ChunkMember) → Type 0
EndsWithInsert value key old new = (before : List (Option ChunkMember)) × KeepsMembers old before
    × InsertsInChunk value (chunk_of key) before (Ok key) new

-- The value is stored, or there is no room for it, or memory is refused to a member. If the try says that the caller
-- owned a shard, it did.
abbrev pub TriesInsert : List ℕ → List (Option ChunkMember) → Result Tried Refusal → List (Option ChunkMember) → Type 0
TriesInsert value old (Ok (Stored key)) new = EndsWithInsert value key old new
TriesInsert value old (Ok (Refused owned)) new = KeepsMembers old new × (owned ≡ true → OwnedFull value old new)
TriesInsert value old (Err refusal.Memory) new = KeepsMembers old new × LackedMemory value old new
TriesInsert value old (Err _) new = ⊥

-- what a try returns whose insert or move was refused
abbrev pub tried_by : Refusal → Result Tried Refusal
tried_by refusal.Memory = Err refusal.Memory
tried_by refusal.Full = Ok (Refused true)
tried_by refusal.Waiting = Ok (Refused true)
tried_by _ = Ok (Refused false)

-- what two tries return, if the first of them had no room
abbrev pub tried_after : (owned : Bool) → Result Tried Refusal → Result Tried Refusal
tried_after owned (Ok (Stored key)) = Ok (Stored key)
tried_after owned (Ok (Refused here)) = Ok (Refused (owned || here))
tried_after owned (Err why) = Err why

-- if there was no room, this holds of whether the caller owned a shard
abbrev pub OnRefused : Result Tried Refusal → (Bool → Type 0) → Type 0
OnRefused (Ok (Refused owned)) p = p owned
OnRefused (Ok (Stored key)) p = Unit {0}
OnRefused (Err why) p = Unit {0}

-- a move to a shard is refused for want of memory, or the shard is refused to each value
abbrev pub MoveRefused : (shard : ℕ) → Refusal → Option ChunkMember → Option ChunkMember → Type 0
MoveRefused shard why old new =
    OnRefused (tried_by why) (λ owned. (value : List ℕ)
    → WasRefused owned value shard old new × (owned ≡ true → Did (OwnsFull value) old new))
    × (why ≡ refusal.Memory → (value : List ℕ) → Did (LacksMemory value) old new)

-- what a caller has in a chunk owns no shard
abbrev pub OwnsNone : Option ChunkMember → Type 0
OwnsNone there = IfSome there (λ m. IsPass m.member)

-- the caller owns no shard in the chunks below this one
abbrev pub OwnsNowhere : (below : ℕ) → List (Option ChunkMember) → Type 0
OwnsNowhere below members = (chunk : ℕ) → chunk < below → OwnsNone (get_or members chunk None)

-- it leaves none: where it owns none now, it owned none before
abbrev pub LeavesNone : List (Option ChunkMember) → List (Option ChunkMember) → Type 0
LeavesNone old new = (chunk : ℕ) → OwnsNone (get_or new chunk None) → OwnsNone (get_or old chunk None)

-- each shard of each chunk that the heap may have was refused
abbrev pub AllRefused : (owned : Bool) → (chunks : ℕ) → List ℕ → List (Option ChunkMember) → List (Option ChunkMember)
    → Type 0
AllRefused owned chunks value old new = (chunk : ℕ) → chunk < chunks → ChunkRefused owned value chunk old new

-- the same of the chunks below this one, in the course of a call that was to insert some value
pub record AllBelowRefused (chunk : ℕ) (members : List (Option ChunkMember)) : Type 0 where
  pub before : List (Option ChunkMember)
  pub value : List ℕ
  pub each : AllRefused true chunk value before members

-- A chunk was wanted that the caller has not met: each shard of each chunk below it was refused.
pub record WantsChunk (chunks : ℕ) (value : List ℕ) (old new : List (Option ChunkMember)) : Type 0 where
  pub chunk : ℕ
  pub few : chunk < chunks
  pub unmet : get_or new chunk None ≡ None
  pub below : AllRefused true chunk value old new

-- An insert over the chunks of a heap that may have this many. The value is stored in the key's chunk. If it is
-- refused, each member keeps its heap, its number, its log and its holds. It is Full or NoShard only if in this call
-- each shard of each chunk that the heap may have was refused, so that all chunks are open. It is Full only if the
-- caller owned a shard in this call, and NoShard only if it owned none before and each shard was refused as another's.
-- It is Memory only if memory was refused to a member, or a chunk was wanted; and Taken only if a chunk was wanted.
abbrev pub Inserts : (chunks : ℕ) → List ℕ → List (Option ChunkMember) → Result ℕ Refusal → List (Option ChunkMember)
    → Type 0
Inserts chunks value old (Ok key) new = EndsWithInsert value key old new
Inserts chunks value old (Err refusal.Full) new =
    KeepsMembers old new × AllRefused true chunks value old new × OwnedFull value old new
Inserts chunks value old (Err refusal.NoShard) new =
    KeepsMembers old new × AllRefused false chunks value old new × OwnsNowhere chunks old
Inserts chunks value old (Err refusal.Memory) new =
    KeepsMembers old new × (LackedMemory value old new ⊎ WantsChunk chunks value old new)
Inserts chunks value old (Err refusal.Taken) new = KeepsMembers old new × WantsChunk chunks value old new
Inserts chunks value old (Err _) new = ⊥
