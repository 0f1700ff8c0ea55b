-- What a walk of a caller over the chunks does: which key it finds next, and which keys it misses.
use Rattle.std.specs.Prelude.{◌≡◌, ℕ, zero, suc, ◌+◌, ◌-◌, ◌*◌, ◌^◌, ◌<◌, ◌⊎◌, min, List, Option, Some, None}
use Rattle.std.specs.Prelude.{Result, Ok, Err, get_or, length}
use Rattle.sh_chunk.specs.Chunks.{chunked, chunk_of, key_within}
use Rattle.sh_value.specs.declared.hold.Hold.{Hold}
use Rattle.sh_value.specs.declared.refusal.Refusal.{Refusal}
use Rattle.sh_value.specs.declared.refusal.Refusal.TheVariants as refusal
use Rattle.sh_pass.specs.Passes.{Caller}
use Rattle.sh_member.specs.Sides.{SideDoes}
use Rattle.sh_member.specs.Walks.{IsHoldOn, NextHeldDoes, NextLiveDoes}
use Rattle.sh_member.specs.declared.walking.NextHeld.{NextHeld}
use Rattle.sh_member.specs.declared.walking.NextLive.{NextLive}
use Rattle.sh_grown.specs.declared.growing.Growing.{Growing}
use Rattle.sh_grown.specs.declared.chunk_member.ChunkMember.{ChunkMember}
use Rattle.sh_grown.specs.declared.caller.Caller.{Caller as SeenCaller}
use Rattle.sh_grown.specs.Callers.{ChunkDoes, Stays}

-- ---- in one chunk

-- where in this chunk a place is: at its first place if it is in an earlier chunk, at its last if it is in a later one
abbrev pub place_in : (place chunk : ℕ) → ℕ
place_in place chunk = min (place - chunk * 2 ^ 56) (2 ^ 56 - 1)

-- the next live key of the chunk is what its member finds, with the number of the chunk
abbrev pub LiveIn : (from before chunk : ℕ) → Caller → Result (Option NextLive) Refusal → Caller → Type 0
LiveIn from before chunk v (Ok (Some next)) w = (chunk_of next.key ≡ chunk) × (chunk_of next.behind ≡ chunk)
    × NextLiveDoes chunked (place_in from chunk) (place_in before chunk) v
    (Some (record { key = key_within next.key; value = next.value; behind = key_within next.behind })) w
LiveIn from before chunk v (Ok None) w =
    NextLiveDoes chunked (place_in from chunk) (place_in before chunk) v None w
LiveIn from before chunk v (Err why) w = ⊥

-- the hold of the member
abbrev pub hold_in : Option Hold → Option Hold
hold_in (Some hold) = Some (record { key = key_within hold.key })
hold_in None = None

-- the same with a hold on the key
abbrev pub HeldIn : (from before chunk : ℕ) → Caller → Result (Option NextHeld) Refusal → Caller → Type 0
HeldIn from before chunk v (Ok (Some next)) w = (chunk_of next.key ≡ chunk) × (chunk_of next.behind ≡ chunk)
    × IsHoldOn next.hold next.key
    × NextHeldDoes chunked (place_in from chunk) (place_in before chunk) v
    (Ok (Some (record { key = key_within next.key; hold = hold_in next.hold; behind = key_within next.behind }))) w
HeldIn from before chunk v (Ok None) w =
    NextHeldDoes chunked (place_in from chunk) (place_in before chunk) v (Ok None) w
HeldIn from before chunk v (Err why) w =
    NextHeldDoes chunked (place_in from chunk) (place_in before chunk) v (Err why) w

-- ---- over the chunks

-- what the caller is told of a chunk in which it has no member: no key, since the chunk was not found open, or that its
-- pass is not in the chunk's pool
abbrev pub ToldUnmet : {X : Type 0} → Result (Option X) Refusal → Type 0
ToldUnmet (Ok None) = Unit {0}
ToldUnmet (Ok (Some next)) = ⊥
ToldUnmet (Err refusal.Taken) = Unit {0}
ToldUnmet (Err _) = ⊥

-- a look for the next key in this chunk: its member does it, or the caller has not met the chunk and cannot meet it now
abbrev pub LooksIn : {X : Type 0} → (does : (chunk : ℕ) → Caller → Result (Option X) Refusal → Caller → Type 0)
    → Growing → (number chunk : ℕ) → List (Option ChunkMember) → Result (Option X) Refusal
    → List (Option ChunkMember) → Type 0
LooksIn does growing number chunk old answer new =
    ChunkDoes (SideDoes chunked (does chunk)) growing number chunk old answer new
    ⊎ (ToldUnmet answer × (get_or old chunk None ≡ None) × (new ≡ old))

-- no key was found in this many chunks from this one on, one after the other
abbrev pub SkipsChunks : {X : Type 0} → (does : (chunk : ℕ) → Caller → Result (Option X) Refusal → Caller → Type 0)
    → Growing → (number chunk count : ℕ) → List (Option ChunkMember) → List (Option ChunkMember) → Type 0
SkipsChunks does growing number chunk zero old new = new ≡ old
SkipsChunks does growing number chunk (suc n) old new = (mid : List (Option ChunkMember))
    × SkipsChunks does growing number chunk n old mid × LooksIn does growing number (chunk + n) mid (Ok None) new

-- after some chunks from this one on, the walk ended in one below that one
abbrev pub EndsIn : {X : Type 0} → (does : (chunk : ℕ) → Caller → Result (Option X) Refusal → Caller → Type 0)
    → Growing → (number chunk below : ℕ) → List (Option ChunkMember) → Result (Option X) Refusal
    → List (Option ChunkMember) → Type 0
EndsIn does growing number chunk below old answer new = (count : ℕ) × (chunk + count < below)
    × (mid : List (Option ChunkMember)) × SkipsChunks does growing number chunk count old mid
    × LooksIn does growing number (chunk + count) mid answer new

-- A walk over the chunks from this one on, below that one, in the order of their numbers. It ended in the chunk of the
-- key that it found, or in one in which it was refused, or no key was found.
abbrev pub Walks : {X : Type 0} → (does : (chunk : ℕ) → Caller → Result (Option X) Refusal → Caller → Type 0)
    → Growing → (number chunk below : ℕ) → List (Option ChunkMember) → Result (Option X) Refusal
    → List (Option ChunkMember) → Type 0
Walks does growing number chunk below old (Ok (Some next)) new =
    EndsIn does growing number chunk below old (Ok (Some next)) new
Walks does growing number chunk below old (Ok None) new = SkipsChunks does growing number chunk (below - chunk) old new
Walks does growing number chunk below old (Err why) new = EndsIn does growing number chunk below old (Err why) new

-- how many chunks the heap may have up to that of this place
abbrev pub chunks_up_to : Growing → (place : ℕ) → ℕ
chunks_up_to growing place = min (chunk_of place + 1) (length growing.cells.items)

-- a caller walks over the chunks of its heap from the first place on, before the second, and does this in each
abbrev pub CallerWalks : {X : Type 0} → (does : (chunk : ℕ) → Caller → Result (Option X) Refusal → Caller → Type 0)
    → (from before : ℕ) → SeenCaller → Result (Option X) Refusal → SeenCaller → Type 0
CallerWalks does from before c answer d = Walks does c.growing c.number (chunk_of from)
    (chunks_up_to c.growing before) c.met.items answer d.met.items × Stays c d
