-- What a caller knows of the history: its own entries, in which the value of a get may not have been read yet.
use Rattle.std.specs.Prelude.{◌≡◌, ◌≢◌, ℕ, ◌-◌, Bool, false, ◌==◌, ◌&&◌, if◌then◌else◌, List, [], ◌∷◌, filter, count_by}
use Rattle.std.specs.List.{AllZip}
use Rattle.sh_history.specs.declared.entry.Entry.{Entry}
use Rattle.sh_history.specs.declared.log.LogEntry.{LogEntry}
use Rattle.sh_history.specs.declared.log.LogEntry.TheVariants.{Known, Unread}
use Rattle.sh_history.specs.declared.entry.Entry.TheVariants.{Insert, Got, Gone, Crowded, Removed, Released, Seen}
use Rattle.sh_history.specs.History.{is_got_by, is_release_by, is_got_from, is_release_from, Legal}

-- the log entry is the entry, or it is a get whose value is not read yet and the entry is that get
abbrev pub Agrees : LogEntry → Entry → Type 0
Agrees (Known known) entry = entry ≡ known
Agrees (Unread pass key) entry = (value : List ℕ) × (entry ≡ Got pass key value)

abbrev pub pass_of : Entry → ℕ
pass_of (Insert pass key value) = pass
pass_of (Got pass key value) = pass
pass_of (Gone pass key) = pass
pass_of (Crowded pass key) = pass
pass_of (Removed pass key) = pass
pass_of (Released pass key) = pass
pass_of (Seen pass key value) = pass

-- the entries of these passes
abbrev pub entries_of : (ℕ → Bool) → List Entry → List Entry
entries_of of_pass history = filter (λ entry. of_pass (pass_of entry)) history

-- there is a legal history in which the entries of these passes are the log, in order
pub record IsLegalLog (passes guard_max : ℕ) (of_pass : ℕ → Bool) (log : List LogEntry) : Type 0 where
  pub history : List Entry
  pub legal : Legal passes guard_max history
  pub agrees : AllZip Agrees log (entries_of of_pass history)

abbrev pub is_logged_got_by : ℕ → ℕ → LogEntry → Bool
is_logged_got_by pass key (Known entry) = is_got_by pass key entry
is_logged_got_by pass key (Unread p k) = (p == pass) && (k == key)

abbrev pub is_logged_release_by : ℕ → ℕ → LogEntry → Bool
is_logged_release_by pass key (Known entry) = is_release_by pass key entry
is_logged_release_by pass key (Unread p k) = false

-- how many holds on the key the log leaves the pass
abbrev pub logged_holds_by : List LogEntry → ℕ → ℕ → ℕ
logged_holds_by log pass key =
    count_by (is_logged_got_by pass key) log - count_by (is_logged_release_by pass key) log

abbrev pub is_logged_got_from : ℕ → LogEntry → Bool
is_logged_got_from pass (Known entry) = is_got_from pass entry
is_logged_got_from pass (Unread p k) = p == pass

abbrev pub is_logged_release_from : ℕ → LogEntry → Bool
is_logged_release_from pass (Known entry) = is_release_from pass entry
is_logged_release_from pass (Unread p k) = false

-- how many holds the log leaves the pass, over all keys
abbrev pub logged_hold_count : List LogEntry → ℕ → ℕ
logged_hold_count log pass = count_by (is_logged_got_from pass) log - count_by (is_logged_release_from pass) log

-- the log entry is a get of the key by the pass
abbrev pub IsGotBy : ℕ → ℕ → LogEntry → Type 0
IsGotBy pass key (Known (Got p k value)) = (p ≡ pass) × (k ≡ key)
IsGotBy pass key (Unread p k) = (p ≡ pass) × (k ≡ key)
IsGotBy pass key _ = ⊥

-- the entry after the value of the key was read
abbrev pub filled : ℕ → List ℕ → LogEntry → LogEntry
filled key value (Known entry) = Known entry
filled key value (Unread pass k) = if k == key then Known (Got pass k value) else Unread pass k

-- a known get of the key has this value, and an unread get is of another key
abbrev pub HasValue : ℕ → List ℕ → LogEntry → Type 0
HasValue key value (Known (Got p k v)) = k ≡ key → v ≡ value
HasValue key value (Unread p k) = k ≢ key
HasValue key value _ = Unit {0}

-- each get of the key has this value
abbrev pub AllHaveValue : ℕ → List ℕ → List LogEntry → Type 0
AllHaveValue key value [] = Unit {0}
AllHaveValue key value (entry ∷ rest) = HasValue key value entry × AllHaveValue key value rest
