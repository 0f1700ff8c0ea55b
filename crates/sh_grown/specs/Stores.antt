-- What the calls of a caller do as those of a store. It has no book: its pass in a chunk may have entries and holds of
-- earlier callers of its number, which are not known before the chunk is met.
use Rattle.std.specs.Prelude.{◌≡◌, ℕ, List, IfOk, Result, length}
use Rattle.sh_chunk.specs.Chunks.{chunked, chunk_of, key_within}
use Rattle.sh_value.specs.declared.hold.Hold.{Hold}
use Rattle.sh_value.specs.declared.refusal.Refusal.{Refusal}
use Rattle.sh_pass.specs.Passes.{Caller as Pass, ReadDoes, ReleaseDoes}
use Rattle.sh_pass.specs.Fetching.{FetchDoes}
use Rattle.sh_member.specs.Sides.{SideDoes}
use Rattle.sh_grown.specs.declared.caller.Caller.{Caller}
use Rattle.sh_grown.specs.Callers.{GetsIn, GrownDoes, Stays}
use Rattle.sh_grown.specs.Inserts.{Inserts}
use Rattle.sh_grown.specs.Steps.{TakesInAll, chunk_most}

-- its pass in the chunk of the key does this, or the chunk cannot be met
abbrev pub CallerDoes : {A : Type 0} → (Pass → Result A Refusal → Pass → Type 0) → (key : ℕ) → Caller
    → Result A Refusal → Caller → Type 0
CallerDoes does key c answer d = GrownDoes (SideDoes chunked does) c.growing c.number (chunk_of key) c.met.items answer
    d.met.items × Stays c d

abbrev pub CallerGets : (key : ℕ) → Caller → Result Hold Refusal → Caller → Type 0
CallerGets key c answer d = CallerDoes (GetsIn key) key c answer d × IfOk answer (λ hold. hold.key ≡ key)

abbrev pub CallerReads : (key : ℕ) → Caller → Result (List ℕ) Refusal → Caller → Type 0
CallerReads key c answer d = CallerDoes (ReadDoes (key_within key)) key c answer d

abbrev pub CallerLooks : (key : ℕ) → Caller → Result (List ℕ) Refusal → Caller → Type 0
CallerLooks key c answer d = CallerDoes (FetchDoes chunked (key_within key)) key c answer d

abbrev pub CallerReleases : (key : ℕ) → Caller → Result (Unit {0}) Refusal → Caller → Type 0
CallerReleases key c answer d = CallerDoes (ReleaseDoes chunked (key_within key)) key c answer d

-- an insert over the chunks, in at most the steps of its bound
abbrev pub CallerInserts : (value : List ℕ) → Caller → Result ℕ Refusal → Caller → Type 0
CallerInserts value c answer d = Inserts (length c.growing.cells.items) value c.met.items answer d.met.items
    × TakesInAll (chunk_most (length value)) c d × Stays c d
