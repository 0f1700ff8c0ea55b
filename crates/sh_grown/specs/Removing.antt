-- What a caller's remove_if does, over the chunks.
use Rattle.std.specs.Prelude.{ℕ, Bool, List, Option, Result, Ok, Err}
use Rattle.sh_chunk.specs.Chunks.{chunked, chunk_of, key_within}
use Rattle.sh_value.specs.declared.refusal.Refusal.{Refusal}
use Rattle.sh_pass.specs.Passes.{RemoveDoes}
use Rattle.sh_member.specs.Sides.{SideDoes}
use Rattle.sh_member.specs.Removing.{Judged, JudgesEach, RemovesIf, walk_end}
use Rattle.sh_member.specs.declared.walking.NextLive.{NextLive}
use Rattle.sh_grown.specs.declared.caller.Caller.{Caller}
use Rattle.sh_grown.specs.Callers.{GrownDoes, Stays}
use Rattle.sh_grown.specs.Walks.{CallerWalks, LiveIn}

-- a walk over all places from this one on
abbrev pub CallerSeeks : (from : ℕ) → Caller → Result (Option NextLive) Refusal → Caller → Type 0
CallerSeeks from = CallerWalks (LiveIn from walk_end) from walk_end

-- it found this key, or none
abbrev pub CallerMeets : (from : ℕ) → Caller → Option NextLive → Caller → Type 0
CallerMeets from c met d = CallerSeeks from c (Ok met) d

-- a removal of the key
abbrev pub CallerRemoves : (key : ℕ) → Caller → Result (Unit {0}) Refusal → Caller → Type 0
CallerRemoves key c answer d = GrownDoes (SideDoes chunked (RemoveDoes chunked (key_within key))) c.growing c.number
    (chunk_of key) c.met.items answer d.met.items × Stays c d

-- keys were judged until no more was found, or until the walk was refused in a chunk
abbrev pub CallerRemovesIf : (says : (key : ℕ) → (value : List ℕ) → Bool → Type 0) → Caller → Result ℕ Refusal → Caller
    → Type 0
CallerRemovesIf says c (Ok count) d = RemovesIf says CallerMeets CallerRemoves c count d
CallerRemovesIf says c (Err why) d = (judged : List Judged) × (next : ℕ) × (last : Caller)
    × JudgesEach says CallerMeets CallerRemoves 0 judged next c last × CallerSeeks next last (Err why) d
