-- How a shard of a chunk is refused to a caller.
use Rattle.std.specs.Prelude.{◌≡◌, ℕ, ◌<◌, ◌≤◌, ◌⊎◌, Bool, true, List, Option, Some, None, Err, IsSomeAnd, get_or}
use Rattle.sh_chunk.specs.Chunks.{chunked}
use Rattle.sh_value.specs.declared.refusal.Refusal.TheVariants as refusal
use Rattle.sh_shard.specs.Leaving.{Waiting}
use Rattle.sh_shard.specs.Pages.{AdoptRefused}
use Rattle.sh_shard.specs.RemoteFrees.{CollectServes}
use Rattle.sh_shard.specs.Shards.{InsertServes, NoRoom, Sharded, value_class}
use Rattle.sh_member.specs.declared.member.Side.TheVariants.{Pass, Shard}
use Rattle.sh_member.specs.Sides.{SeenSide}
use Rattle.sh_grown.specs.declared.chunk_member.ChunkMember.{ChunkMember}
use Rattle.sh_grown.specs.Callers.{MemberTakes}
use Rattle.sh_grown.specs.Keeping.{KeepsMember}

-- the member owns this shard
abbrev pub OwnsShard : (shard : ℕ) → SeenSide → Type 0
OwnsShard shard (Pass v) = ⊥
OwnsShard shard (Shard o) = o.pages.shard ≡ shard

-- so does what a caller has in a chunk
abbrev pub OwnsThere : (shard : ℕ) → Option ChunkMember → Type 0
OwnsThere shard there = IsSomeAnd there (λ m. OwnsShard shard m.member)

-- the member has to keep the shard that it owns, since a free there is yet to end
abbrev pub Waits : SeenSide → SeenSide → Type 0
Waits (Shard o) (Shard n) = Waiting o.pages n.pages
Waits (Shard o) (Pass w) = ⊥
Waits (Pass v) n = ⊥

abbrev pub WaitsThere : Option ChunkMember → Option ChunkMember → Type 0
WaitsThere = MemberTakes Waits

-- the owner collected the shard, which then had no room for the value
pub record HasNoRoom (value : List ℕ) (o n : Sharded) : Type 0 where
  pub collected : Sharded
  pub collects : CollectServes o collected
  pub full : NoRoom (value_class value) collected n

-- The member asked for the shard: it has an owner, or there is no such shard. Or the member owned one: it owns the
-- shard, and after a collect that has no room for the value, or it has to keep another shard.
abbrev pub RefusesShard : (owned : Bool) → List ℕ → (shard : ℕ) → SeenSide → SeenSide → Type 0
RefusesShard owned value shard (Pass v) (Pass w) =
    AdoptRefused shard v w refusal.Taken ⊎ AdoptRefused shard v w refusal.NoShard
RefusesShard owned value shard (Pass v) (Shard n) = ⊥
RefusesShard owned value shard (Shard o) (Shard n) = (owned ≡ true)
    × (((o.pages.shard ≡ shard) × HasNoRoom value o n) ⊎ Waiting o.pages n.pages)
RefusesShard owned value shard (Shard o) (Pass w) = ⊥

-- the member owned a shard that had no room for the value, or that it had to keep
abbrev pub OwnsFull : List ℕ → SeenSide → SeenSide → Type 0
OwnsFull value (Shard o) (Shard n) = NoRoom (value_class value) o n ⊎ Waiting o.pages n.pages
OwnsFull value (Shard o) (Pass w) = ⊥
OwnsFull value (Pass v) n = ⊥

-- memory was refused to the member: to an adoption of a shard that it found free, or to an insert in its own shard
abbrev pub LacksMemory : List ℕ → SeenSide → SeenSide → Type 0
LacksMemory value (Pass v) (Pass w) = (shard : ℕ) × AdoptRefused shard v w refusal.Memory
LacksMemory value (Pass v) (Shard n) = ⊥
LacksMemory value (Shard o) (Shard n) = InsertServes chunked (value_class value) value o (Err refusal.Memory) n
LacksMemory value (Shard o) (Pass w) = ⊥

-- in the course of a call, from what the caller had in a chunk to what it has there, its member did this
pub record Did (does : SeenSide → SeenSide → Type 0) (old new : Option ChunkMember) : Type 0 where
  pub before : ChunkMember
  pub after : ChunkMember
  pub begins : KeepsMember old (Some before)
  pub step : does before.member after.member
  pub ends : KeepsMember (Some after) new

-- so the shard was refused
abbrev pub WasRefused : (owned : Bool) → List ℕ → (shard : ℕ) → Option ChunkMember → Option ChunkMember → Type 0
WasRefused owned value shard old new = Did (RefusesShard owned value shard) old new

-- in some chunk the caller owned a shard that had no room for the value, or that it had to keep
abbrev pub OwnedFull : List ℕ → List (Option ChunkMember) → List (Option ChunkMember) → Type 0
OwnedFull value old new = (chunk : ℕ) × Did (OwnsFull value) (get_or old chunk None) (get_or new chunk None)

-- in some chunk memory was refused to its member
abbrev pub LackedMemory : List ℕ → List (Option ChunkMember) → List (Option ChunkMember) → Type 0
LackedMemory value old new = (chunk : ℕ) × Did (LacksMemory value) (get_or old chunk None) (get_or new chunk None)

-- over all chunks, a shard of this one was refused
abbrev pub RefusedIn : (owned : Bool) → List ℕ → (chunk shard : ℕ) → List (Option ChunkMember)
    → List (Option ChunkMember) → Type 0
RefusedIn owned value chunk shard old new =
    WasRefused owned value shard (get_or old chunk None) (get_or new chunk None)

-- the same of each shard of the chunk from this one on, below another
abbrev pub RangeRefused : (owned : Bool) → List ℕ → (chunk from to : ℕ) → List (Option ChunkMember)
    → List (Option ChunkMember) → Type 0
RangeRefused owned value chunk from to old new =
    (shard : ℕ) → from ≤ shard → shard < to → RefusedIn owned value chunk shard old new

-- each shard of a chunk that the caller has met was refused
pub record ChunkRefused (owned : Bool) (value : List ℕ) (chunk : ℕ) (old new : List (Option ChunkMember)) :
    Type 0 where
  pub met : ChunkMember
  pub there : get_or new chunk None ≡ Some met
  pub each : (shard : ℕ) → shard < met.shards → RefusedIn owned value chunk shard old new
