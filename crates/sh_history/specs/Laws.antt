-- What follows if a history is legal: of a key's value, of its removal, and of how often each pass released it.
use Rattle.std.specs.Prelude.{◌≡◌, ℕ, ◌≤◌, ◌↔◌, true, List, Some, count_by}
use Rattle.std.specs.List.{Contains}
use Rattle.sh_history.specs.declared.entry.Entry.{Entry}
use Rattle.sh_history.specs.declared.entry.Entry.TheVariants.{Insert, Got, Removed, Seen}
use Rattle.sh_history.specs.History.{value_of, is_removed, is_removal_of, got_count_by, released_count_by, Legal}

-- some pass inserted the value, which has this key
abbrev pub IsIssuedWith : List Entry → ℕ → List ℕ → Type 0
IsIssuedWith history key value = (pass : ℕ) × Contains history (Insert pass key value)

-- some pass removed the key
abbrev pub HasRemoval : List Entry → ℕ → Type 0
HasRemoval history key = (pass : ℕ) × Contains history (Removed pass key)

-- the value of a key is the one that it was inserted with, so no key was inserted with two
abbrev pub ValueIsInserted : Type 0
ValueIsInserted =
    (passes guard_max : ℕ) (history : List Entry) → Legal passes guard_max history
    → (key : ℕ) (value : List ℕ) → (value_of history key ≡ Some value) ↔ IsIssuedWith history key value

-- a get of a key returned the value that was inserted with it
abbrev pub GetsGiveInserted : Type 0
GetsGiveInserted =
    (passes guard_max : ℕ) (history : List Entry) → Legal passes guard_max history
    → (pass key : ℕ) (value : List ℕ) → Contains history (Got pass key value) → IsIssuedWith history key value

-- a look at a key returned the value that was inserted with it
abbrev pub LooksGiveInserted : Type 0
LooksGiveInserted =
    (passes guard_max : ℕ) (history : List Entry) → Legal passes guard_max history
    → (pass key : ℕ) (value : List ℕ) → Contains history (Seen pass key value) → IsIssuedWith history key value

-- a key counts as removed exactly if the history has a removal of it
abbrev pub RemovedHasRemoval : Type 0
RemovedHasRemoval = (history : List Entry) (key : ℕ) → (is_removed history key ≡ true) ↔ HasRemoval history key

-- a key is removed at most once: a legal history has at most one removal of it
abbrev pub RemovedOnce : Type 0
RemovedOnce =
    (passes guard_max : ℕ) (history : List Entry) → Legal passes guard_max history
    → (key : ℕ) → count_by (is_removal_of key) history ≤ 1

-- a pass released a key at most as often as it got it
abbrev pub ReleasesAreGot : Type 0
ReleasesAreGot =
    (passes guard_max : ℕ) (history : List Entry) → Legal passes guard_max history
    → (pass key : ℕ) → released_count_by history pass key ≤ got_count_by history pass key
