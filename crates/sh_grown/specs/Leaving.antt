-- What a caller does that leaves its shards as far as it can.
use Rattle.std.specs.Prelude.{◌≡◌, ℕ, ◌<◌, ◌⊎◌, List, Option, None, Result, IfErr, OnErr, OnOk, get_or}
use Rattle.sh_value.specs.declared.refusal.Refusal.{Refusal}
use Rattle.sh_value.specs.declared.refusal.Refusal.TheVariants as refusal
use Rattle.sh_grown.specs.declared.chunk_member.ChunkMember.{ChunkMember}
use Rattle.sh_grown.specs.Inserts.{OwnsNone}
use Rattle.sh_grown.specs.Refusals.{WaitsThere}

-- what a caller has in a chunk owns no shard now, or has to keep the one that it owned before
abbrev pub LeftOrWaits : Option ChunkMember → Option ChunkMember → Type 0
LeftOrWaits old new = OwnsNone new ⊎ WaitsThere old new

-- The caller left its shard in each chunk below this one, or has to keep it. The result says which: it owns no shard in
-- any of them, or it is refused as Waiting, since it has to keep one.
pub record LeavesIdle (below : ℕ) (old : List (Option ChunkMember)) (answer : Result (Unit {0}) Refusal)
    (new : List (Option ChunkMember)) : Type 0 where
  pub each : (chunk : ℕ) → chunk < below → LeftOrWaits (get_or old chunk None) (get_or new chunk None)
  pub left : OnOk answer ((chunk : ℕ) → chunk < below → OwnsNone (get_or new chunk None))
  pub err : IfErr answer (λ why. why ≡ refusal.Waiting)
  pub waits : OnErr answer
      ((chunk : ℕ) × (chunk < below) × WaitsThere (get_or old chunk None) (get_or new chunk None))

-- The caller left its shards in the chunks up to one below this, and has to keep the one that it owned there. Those
-- behind that chunk are as they were.
pub record StopsBelow (below : ℕ) (old new : List (Option ChunkMember)) : Type 0 where
  pub chunk : ℕ
  pub less : chunk < below
  pub left : (other : ℕ) → other < chunk → OwnsNone (get_or new other None)
  pub waits : WaitsThere (get_or old chunk None) (get_or new chunk None)
  pub rest : (other : ℕ) → chunk < other → get_or new other None ≡ get_or old other None
