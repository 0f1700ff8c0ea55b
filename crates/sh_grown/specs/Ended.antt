-- What the calls of a caller say of the key that they ended.
use Rattle.std.specs.Prelude.{◌≡◌, ℕ, ◌⊎◌, List, Option, Some, None, Bool, Result, Ok, Err, IsErrAnd, get_or}
use Rattle.sh_chunk.specs.Chunks.{chunked, chunk_of, key_within}
use Rattle.sh_value.specs.declared.hold.Hold.{Hold}
use Rattle.sh_value.specs.declared.refusal.Refusal.{Refusal}
use Rattle.sh_pass.specs.Passes.{Caller}
use Rattle.sh_pass.specs.Telling.{GetTells, RemoveTells, ReleaseTells}
use Rattle.sh_member.specs.Sides.{SideDoes}
use Rattle.sh_grown.specs.declared.growing.Growing.{Growing}
use Rattle.sh_grown.specs.declared.chunk_member.ChunkMember.{ChunkMember}
use Rattle.sh_grown.specs.Callers.{ChunkDoes, WhyUnmet, hold_within}

-- the key that the member of the chunk said, for the key with its chunk
abbrev pub ended_within : Option ℕ → Option ℕ
ended_within (Some ended) = Some (key_within ended)
ended_within None = None

-- a key that ended is of the chunk of this one
abbrev pub IsOfSameChunk : ℕ → Option ℕ → Type 0
IsOfSameChunk key (Some ended) = chunk_of ended ≡ chunk_of key
IsOfSameChunk key None = Unit {0}

-- the hold on the key with its chunk, for the hold of its member
abbrev pub hold_on : ℕ → Result Hold Refusal → Result Hold Refusal
hold_on key (Ok hold) = Ok (record { key = key })
hold_on key (Err why) = Err why

-- a get by the member of the key's chunk, which says that this key ended; the hold is on the key with its chunk
abbrev pub GetTellsIn : {M : Type 0} → Bool → (takes : M → List ℕ → M → Type 0) → (key : ℕ) → (ended : Option ℕ)
    → (before : M) → Caller → Result Hold Refusal → (after : M) → Caller → Type 0
GetTellsIn asks takes key ended before v answer after w =
    GetTells asks takes chunked (key_within key) before v (hold_within answer, ended_within ended) after w
    × IsOfSameChunk key ended

-- the same for a remove and for a release
abbrev pub RemoveTellsIn : {M : Type 0} → Bool → (takes : M → List ℕ → M → Type 0) → (key : ℕ) → (ended : Option ℕ)
    → (before : M) → Caller → Result (Unit {0}) Refusal → (after : M) → Caller → Type 0
RemoveTellsIn asks takes key ended before v answer after w =
    RemoveTells asks takes chunked (key_within key) before v (answer, ended_within ended) after w
    × IsOfSameChunk key ended

abbrev pub ReleaseTellsIn : {M : Type 0} → Bool → (takes : M → List ℕ → M → Type 0) → (key : ℕ) → (ended : Option ℕ)
    → (before : M) → Caller → Result (Unit {0}) Refusal → (after : M) → Caller → Type 0
ReleaseTellsIn asks takes key ended before v answer after w =
    ReleaseTells asks takes chunked (key_within key) before v (answer, ended_within ended) after w
    × IsOfSameChunk key ended

-- A call on a key of this chunk that says which key it ended: its member does it. Or the caller has not met the chunk
-- and cannot meet it now: then no key ended, and the room is as it was.
abbrev pub GrownTells : {A M : Type 0}
    → (tells : (ended : Option ℕ) → (before : M) → Caller → Result A Refusal → (after : M) → Caller → Type 0) → Growing
    → (number chunk : ℕ) → List (Option ChunkMember) → (before : M) → Result A Refusal × Option ℕ → (after : M)
    → List (Option ChunkMember) → Type 0
GrownTells tells growing number chunk old before answer after new =
    ChunkDoes (SideDoes chunked (λ v a w. tells answer.1 before v a after w)) growing number chunk old answer.0 new
    ⊎ (IsErrAnd answer.0 WhyUnmet × (answer.1 ≡ None) × (after ≡ before) × (get_or old chunk None ≡ None)
    × (new ≡ old))
