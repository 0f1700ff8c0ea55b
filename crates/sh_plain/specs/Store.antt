-- What each call of a store leaves in its book: the list of the results that the store has returned so far. Each
-- relation goes by cases on the result; a result that a call never returns is impossible.
use Rattle.std.specs.Prelude.{◌≡◌, ℕ, ◌<◌, ◌⊎◌, Bool, List, [], ◌∷◌, ◌++◌, map, Result, Ok, Err}
use Rattle.sh_value.specs.declared.hold.Hold.{Hold}
use Rattle.sh_value.specs.declared.refusal.Refusal.{Refusal}
use Rattle.sh_value.specs.declared.refusal.Refusal.TheVariants.{BadKey, Gone as GoneRefusal, Crowded as CrowdedRefusal}
use Rattle.sh_value.specs.declared.refusal.Refusal.TheVariants.{HoldsFull, NotHeld, Full, Memory, WrongKind}
use Rattle.sh_history.specs.declared.entry.Entry.TheVariants.{Insert, Got, Gone, Crowded, Removed, Released, Seen}
use Rattle.sh_history.specs.declared.log.LogEntry.{LogEntry}
use Rattle.sh_history.specs.declared.log.LogEntry.TheVariants.{Known}
use Rattle.sh_history.specs.Log.{IsLegalLog, IsGotBy, filled, AllHaveValue, logged_holds_by}

-- what stays the same over the calls of one caller
pub record Setting : Type 0 where
  -- the caller's pass
  pub pass : ℕ
  -- how many passes the heap has, and how many holds a key may have
  pub passes : ℕ
  pub guard_max : ℕ
  -- the passes whose entries are in the book
  pub answers_for : ℕ → Bool

-- there is a legal history in which the entries of these passes are the book, in order
abbrev pub IsBook : Setting → List LogEntry → Type 0
IsBook s book = IsLegalLog s.passes s.guard_max s.answers_for book

-- an insert adds its entry, or nothing if it is refused
abbrev pub InsertLeaves : Setting → List ℕ → List LogEntry → Result ℕ Refusal → List LogEntry → Type 0
InsertLeaves s value book (Ok key) after = after ≡ book ++ Known (Insert s.pass key value) ∷ []
InsertLeaves s value book (Err Full) after = after ≡ book
InsertLeaves s value book (Err Memory) after = after ≡ book
InsertLeaves s value book (Err _) after = ⊥

-- a get adds its entry, whose value may be open, or nothing if it is refused before the key is looked at
abbrev pub GetLeaves : Setting → ℕ → List LogEntry → Result Hold Refusal → List LogEntry → Type 0
GetLeaves s key book (Ok hold) after =
    (hold.key ≡ key) × ((got : LogEntry) × IsGotBy s.pass key got × (after ≡ book ++ got ∷ []))
    × (0 < logged_holds_by after s.pass key)
GetLeaves s key book (Err GoneRefusal) after = after ≡ book ++ Known (Gone s.pass key) ∷ []
GetLeaves s key book (Err CrowdedRefusal) after = after ≡ book ++ Known (Crowded s.pass key) ∷ []
GetLeaves s key book (Err BadKey) after = after ≡ book
GetLeaves s key book (Err HoldsFull) after = after ≡ book
GetLeaves s key book (Err Memory) after = after ≡ book
GetLeaves s key book (Err _) after = ⊥

-- a read adds nothing: it fills in the value of the key, and each get of the key then has that value
abbrev pub ReadLeaves : Setting → ℕ → List LogEntry → Result (List ℕ) Refusal → List LogEntry → Type 0
ReadLeaves s key book (Ok value) after =
    (0 < logged_holds_by book s.pass key) × (after ≡ map (filled key value) book) × AllHaveValue key value after
ReadLeaves s key book (Err NotHeld) after = (logged_holds_by book s.pass key ≡ 0) × (after ≡ book)
ReadLeaves s key book (Err _) after = ⊥

-- A look adds that it saw the value, and leaves no hold. Or it is a get, a read and a release: each get of the key then
-- has that value. If it is refused, it adds what a refused get adds
abbrev pub LookLeaves : Setting → ℕ → List LogEntry → Result (List ℕ) Refusal → List LogEntry → Type 0
LookLeaves s key book (Ok value) after = (after ≡ book ++ Known (Seen s.pass key value) ∷ [])
    ⊎ ((after ≡ map (filled key value) book ++ Known (Got s.pass key value) ∷ Known (Released s.pass key) ∷ [])
    × AllHaveValue key value after)
LookLeaves s key book (Err GoneRefusal) after = after ≡ book ++ Known (Gone s.pass key) ∷ []
LookLeaves s key book (Err CrowdedRefusal) after = after ≡ book ++ Known (Crowded s.pass key) ∷ []
LookLeaves s key book (Err BadKey) after = after ≡ book
LookLeaves s key book (Err HoldsFull) after = after ≡ book
LookLeaves s key book (Err Memory) after = after ≡ book
LookLeaves s key book (Err _) after = ⊥

-- a remove adds its entry, or nothing if it is refused before the key is looked at
abbrev pub RemoveLeaves : Setting → ℕ → List LogEntry → Result (Unit {0}) Refusal → List LogEntry → Type 0
RemoveLeaves s key book (Ok _) after = after ≡ book ++ Known (Removed s.pass key) ∷ []
RemoveLeaves s key book (Err GoneRefusal) after = after ≡ book ++ Known (Gone s.pass key) ∷ []
RemoveLeaves s key book (Err BadKey) after = after ≡ book
RemoveLeaves s key book (Err Memory) after = after ≡ book
RemoveLeaves s key book (Err _) after = ⊥

-- a release adds its entry; it is refused exactly if the book leaves the caller no hold on the key
abbrev pub ReleaseLeaves : Setting → ℕ → List LogEntry → Result (Unit {0}) Refusal → List LogEntry → Type 0
ReleaseLeaves s key book (Ok _) after =
    (0 < logged_holds_by book s.pass key) × (after ≡ book ++ Known (Released s.pass key) ∷ [])
ReleaseLeaves s key book (Err NotHeld) after = (logged_holds_by book s.pass key ≡ 0) × (after ≡ book)
ReleaseLeaves s key book (Err Memory) after = (0 < logged_holds_by book s.pass key) × (after ≡ book)
ReleaseLeaves s key book (Err _) after = ⊥

-- what holds of the results of a store that has no book, as it follows from a book: a key that was got can be read, and
-- then released, unless memory is refused; and no call says that a value is of another kind
pub record Lends {S : Type 0} (gets : S → ℕ → Result Hold Refusal → S → Type 0)
    (reads looks : S → ℕ → Result (List ℕ) Refusal → S → Type 0)
    (releases : S → ℕ → Result (Unit {0}) Refusal → S → Type 0) (old : S) : Type 0 where
  pub gets_kind : (key : ℕ) (new : S) → gets old key (Err WrongKind) new → ⊥
  pub looks_kind : (key : ℕ) (new : S) → looks old key (Err WrongKind) new → ⊥
  pub reads_got : (key : ℕ) (hold : Hold) (got new : S) (why : Refusal) → gets old key (Ok hold) got
      → reads got hold.key (Err why) new → ⊥
  pub releases_got : (key : ℕ) (hold : Hold) (value : List ℕ) (got read new : S) (why : Refusal)
      → gets old key (Ok hold) got → reads got hold.key (Ok value) read → releases read hold.key (Err why) new
      → why ≡ Memory
