-- What a caller keeps in each of its chunks if shards alone are worked on.
use Rattle.std.specs.Prelude.{◌≡◌, ℕ, List, Option, Some, None, get_or}
use Rattle.sh_history.specs.declared.log.LogEntry.{LogEntry}
use Rattle.sh_table.specs.Seats.{Heap}
use Rattle.sh_pass.specs.Passes.{Caller, holds}
use Rattle.sh_member.specs.declared.member.Side.TheVariants.{Pass, Shard}
use Rattle.sh_member.specs.Sides.{SeenSide}
use Rattle.sh_grown.specs.declared.chunk_member.ChunkMember.{ChunkMember}

-- heap, number, log and holds of a pass
pub record Kept : Type 0 where
  pub heap : Heap
  pub number : ℕ
  pub log : List LogEntry
  pub holds : List ℕ

abbrev pub kept_of : Caller → Kept
kept_of v = record { heap = v.heap; number = v.view.pass; log = v.view.own.log; holds = holds v }

-- the same of a member
abbrev pub kept_by : SeenSide → Option Kept
kept_by (Pass v) = Some (kept_of v)
kept_by (Shard o) = Some (kept_of o.pages.owner)

-- it is of the same chunk, and its pass of the same pool slot
abbrev pub SamePlace : ChunkMember → ChunkMember → Type 0
SamePlace m n = (n.pool_slot ≡ m.pool_slot) × (n.note ≡ m.note) × (n.shards ≡ m.shards)

-- Of what there is in a chunk, before and after: if there was something, there still is, and this holds of both. If
-- not, another thing holds of what there is now.
abbrev pub There : {X Y : Type 0} → (X → Y → Type 0) → (Option Y → Type 0) → Option X → Option Y → Type 0
There both otherwise (Some x) (Some y) = both x y
There both otherwise (Some x) None = ⊥
There both otherwise None after = otherwise after

-- there has to be something
abbrev pub Nowhere : {Y : Type 0} → Option Y → Type 0
Nowhere after = ⊥

-- a member that a caller had keeps its place, its heap, its number, its log and its holds
abbrev pub KeepsMember : Option ChunkMember → Option ChunkMember → Type 0
KeepsMember = There (λ m n. (kept_by n.member ≡ kept_by m.member) × SamePlace m n) (λ after. Unit {0})

-- the same in each chunk
abbrev pub KeepsMembers : List (Option ChunkMember) → List (Option ChunkMember) → Type 0
KeepsMembers old new = (chunk : ℕ) → KeepsMember (get_or old chunk None) (get_or new chunk None)
