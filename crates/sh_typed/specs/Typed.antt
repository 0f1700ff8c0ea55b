-- Records in a store: which record a value is, and what the calls on records leave in the store's book.
use Rattle.std.specs.Prelude.{◌≡◌, ◌⊎◌, ℕ, ◌<◌, ◌==◌, if◌then◌else◌, List, [], ◌∷◌, ◌++◌, map, Result, Ok, Err, Option}
use Rattle.std.specs.Prelude.{Some, None}
use Rattle.sh_value.specs.declared.hold.Hold.{Hold}
use Rattle.sh_value.specs.declared.refusal.Refusal.{Refusal}
use Rattle.sh_value.specs.declared.refusal.Refusal.TheVariants.{BadKey, Gone, Crowded, HoldsFull, Memory, WrongKind}
use Rattle.sh_history.specs.declared.entry.Entry.TheVariants.{Got, Released}
use Rattle.sh_history.specs.declared.log.LogEntry.{LogEntry}
use Rattle.sh_history.specs.declared.log.LogEntry.TheVariants.{Known}
use Rattle.sh_history.specs.Log.{filled, logged_holds_by}
use Rattle.sh_plain.specs.Store.{Setting, GetLeaves}

-- the record that a value is: its first word is the kind, and the others decode
abbrev pub record_in : {R : Type 0} → ℕ → (List ℕ → Option R) → List ℕ → Option R
record_in kind record_of [] = None
record_in kind record_of (word ∷ words) = if word == kind then record_of words else None

-- the book once the pass got the key and read its value, which each get of the key then has
abbrev pub with_got : Setting → ℕ → List ℕ → List LogEntry → List LogEntry
with_got s key value book = map (filled key value) book ++ Known (Got s.pass key value) ∷ []

-- the key was got and its value was read, and the pass holds the key
pub record GotValue (s : Setting) (key : ℕ) (value : List ℕ) (book after : List LogEntry) : Type 0 where
  pub got : after ≡ with_got s key value book
  pub held : 0 < logged_holds_by after s.pass key

-- a get and its read: the get's value, or the get's refusal
abbrev pub FetchLeaves : Setting → ℕ → List LogEntry → Result (Hold × List ℕ) Refusal → List LogEntry → Type 0
FetchLeaves s key book (Ok (hold, value)) after = (hold.key ≡ key) × GotValue s key value book after
FetchLeaves s key book (Err refusal) after = GetLeaves s key book (Err refusal) after

-- A get of a record: the record is what the got value is read as. If the value is not read as a record, the hold is
-- released again; if memory for that is refused, the hold stays.
abbrev pub RecordLeaves : {R : Type 0} → (List ℕ → Option R) → Setting → ℕ → List LogEntry → Result (Hold × R) Refusal
    → List LogEntry → Type 0
RecordLeaves read s key book (Ok (hold, found)) after =
    (hold.key ≡ key) × ((value : List ℕ) × GotValue s key value book after × (read value ≡ Some found))
RecordLeaves read s key book (Err WrongKind) after =
    (value : List ℕ) × (after ≡ with_got s key value book ++ Known (Released s.pass key) ∷ []) × (read value ≡ None)
RecordLeaves read s key book (Err Memory) after =
    (after ≡ book) ⊎ ((value : List ℕ) × GotValue s key value book after × (read value ≡ None))
RecordLeaves read s key book (Err refusal) after = GetLeaves s key book (Err refusal) after

-- ---- which of the store's results led to it

-- a get and its read, with the store's results: both, or the get's refusal
abbrev pub Fetches : {S : Type 0} → (gets : S → ℕ → Result Hold Refusal → S → Type 0)
    → (reads : S → ℕ → Result (List ℕ) Refusal → S → Type 0) → S → ℕ → Result (Hold × List ℕ) Refusal → S → Type 0
Fetches gets reads old key (Ok (hold, value)) new = (got : _) × gets old key (Ok hold) got
    × reads got hold.key (Ok value) new
Fetches gets reads old key (Err refusal) new = gets old key (Err refusal) new

-- the store gave a hold and a value that is read as no record, and this is the result of releasing that hold
pub record Returns {S R : Type 0} (read : List ℕ → Option R) (gets : S → ℕ → Result Hold Refusal → S → Type 0)
    (reads : S → ℕ → Result (List ℕ) Refusal → S → Type 0) (releases : S → ℕ → Result (Unit {0}) Refusal → S → Type 0)
    (old : S) (key : ℕ) (answer : Result (Unit {0}) Refusal) (new : S) : Type 0 where
  pub hold : Hold
  pub value : List ℕ
  pub held : S
  pub fetched : Fetches gets reads old key (Ok (hold, value)) held
  pub none : read value ≡ None
  pub released : releases held hold.key answer new

-- A get of a record: the store's hold with the record that its value is read as. `WrongKind` if it is read as none and
-- the store took the hold back. Otherwise the store's refusal of the get, or its refusal of the release for memory.
abbrev pub FetchesRecord : {S R : Type 0} → (List ℕ → Option R) → (gets : S → ℕ → Result Hold Refusal → S → Type 0)
    → (reads : S → ℕ → Result (List ℕ) Refusal → S → Type 0) →
    (releases : S → ℕ → Result (Unit {0}) Refusal → S → Type 0)
    → S → ℕ → Result (Hold × R) Refusal → S → Type 0
FetchesRecord read gets reads releases old key (Ok (hold, found)) new =
    (value : List ℕ) × Fetches gets reads old key (Ok (hold, value)) new × (read value ≡ Some found)
FetchesRecord read gets reads releases old key (Err WrongKind) new = Returns read gets reads releases old key (Ok tt)
    new
FetchesRecord read gets reads releases old key (Err Memory) new =
    gets old key (Err Memory) new ⊎ Returns read gets reads releases old key (Err Memory) new
FetchesRecord read gets reads releases old key (Err refusal) new = gets old key (Err refusal) new

-- a call that returns a record: what it does with a value, and the record that this value is read as; `WrongKind` if it
-- is read as none
abbrev pub AsRecord : {R : Type 0} → (List ℕ → Option R) → (does : Result (List ℕ) Refusal → Type 0) → Result R Refusal
    → Type 0
AsRecord read does (Ok found) = (value : List ℕ) × does (Ok value) × (read value ≡ Some found)
AsRecord read does (Err WrongKind) = (value : List ℕ) × does (Ok value) × (read value ≡ None)
AsRecord read does (Err refusal) = does (Err refusal)

-- the record is given back, or the get is refused as a store refuses a get
abbrev pub GivesBack : {R : Type 0} → R → Result (Hold × R) Refusal → Type 0
GivesBack given (Ok (hold, found)) = found ≡ given
GivesBack given (Err BadKey) = Unit {0}
GivesBack given (Err Gone) = Unit {0}
GivesBack given (Err Crowded) = Unit {0}
GivesBack given (Err HoldsFull) = Unit {0}
GivesBack given (Err Memory) = Unit {0}
GivesBack given (Err _) = ⊥

-- the same of a look
abbrev pub SeesBack : {R : Type 0} → R → Result R Refusal → Type 0
SeesBack given (Ok found) = found ≡ given
SeesBack given (Err WrongKind) = ⊥
SeesBack given (Err _) = Unit {0}
