-- What a collect of a caller does in each chunk.
use Rattle.std.specs.Prelude.{◌≡◌, ℕ, ◌<◌, ◌≤◌, List, Option, Some, None, Result, get_or}
use Rattle.sh_chunk.specs.Chunks.{chunked}
use Rattle.sh_value.specs.declared.refusal.Refusal.{Refusal}
use Rattle.sh_member.specs.Sides.{SideCollects}
use Rattle.sh_grown.specs.declared.chunk_member.ChunkMember.{ChunkMember}
use Rattle.sh_grown.specs.Callers.{MemberDoes}

-- the member of a chunk collected the shard that it owns, or owns none and is as it was; so is a chunk that is not met
abbrev pub CollectsThere : Option ChunkMember → Option ChunkMember → Type 0
CollectsThere None new = new ≡ None
CollectsThere (Some m) new =
    (answer : Result (Unit {0}) Refusal) × MemberDoes (SideCollects chunked) (Some m) answer new

-- the same in each chunk below this one; those from it on are as they were
pub record CollectsBelow (below : ℕ) (old new : List (Option ChunkMember)) : Type 0 where
  pub each : (chunk : ℕ) → chunk < below → CollectsThere (get_or old chunk None) (get_or new chunk None)
  pub others : (chunk : ℕ) → below ≤ chunk → get_or new chunk None ≡ get_or old chunk None
