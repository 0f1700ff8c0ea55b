-- The histories of chunks, as one history.
use Rattle.std.specs.Prelude.{◌≡◌, ℕ, ◌^◌, ◌<◌, List, map}
use Rattle.std.specs.List.{All}
use Rattle.sh_history.specs.declared.entry.Entry.{Entry}
use Rattle.sh_history.specs.History.{Legal}
use Rattle.history_local.specs.Groups.{key_of, entries_in, renamed}
use Rattle.sh_chunk.specs.Chunks.{with_chunk, chunk_of, key_within}

-- the history of a chunk, on keys with the chunk's number above them
abbrev pub of_chunk : ℕ → List Entry → List Entry
of_chunk chunk history = map (renamed (λ key. with_chunk key chunk)) history

-- each entry is on a key below 2^56
abbrev pub KeysFit : List Entry → Type 0
KeysFit history = All (λ entry. key_of entry < 2 ^ 56) history

-- the entries on keys below 2^56, which are all if each fits
abbrev pub fitting : List Entry → List Entry
fitting history = entries_in chunk_of 0 history

-- what a history of all has of a chunk: the entries on keys with its number, without it
abbrev pub in_chunk : ℕ → List Entry → List Entry
in_chunk chunk all = map (renamed key_within) (entries_in chunk_of chunk all)

-- if the first `count` chunks have legal histories, there is a legal history of all, in which the entries of each chunk
-- are those of its history that are on keys below 2^56, in order
abbrev pub OneHistoryOfChunks : Type 0
OneHistoryOfChunks =
    (passes guard_max count : ℕ) (histories : ℕ → List Entry)
    → ((chunk : ℕ) → chunk < count → Legal passes guard_max (histories chunk))
    → (all : List Entry) × Legal passes guard_max all
    × ((chunk : ℕ) → chunk < count
    → (entries_in chunk_of chunk all ≡ of_chunk chunk (fitting (histories chunk)))
    × (in_chunk chunk all ≡ fitting (histories chunk))
    × (KeysFit (histories chunk) → fitting (histories chunk) ≡ histories chunk))
