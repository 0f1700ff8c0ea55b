-- Entries with a number each, as that of their line in a file, and which of them an entry may clash with.
use Rattle.std.specs.Prelude.{ℕ, Bool, false, ◌==◌, if◌then◌else◌, List, [], ◌∷◌, Option, Some, None, map}
use Rattle.sh_history.specs.History.{is_removal_of}
use Rattle.sh_history.specs.declared.entry.Entry.{Entry}
use Rattle.sh_history.specs.declared.entry.Entry.TheVariants.{Insert, Got, Gone, Crowded, Removed, Released, Seen}
use Rattle.sh_history.specs.declared.checker.Why.{Why}
use Rattle.sh_history.specs.declared.checker.Why.TheVariants.{NotNew, OtherValue, AfterRemoval, StillThere}

-- the entries, without their numbers
abbrev pub entries_in : List (ℕ × Entry) → List Entry
entries_in lines = map (λ l. l.1) lines

-- the number of the first entry that passes the test
abbrev pub first_number : (Entry → Bool) → List (ℕ × Entry) → Option ℕ
first_number test [] = None
first_number test (l ∷ ls) = if test l.1 then Some l.0 else first_number test ls

abbrev pub is_insert_of : ℕ → Entry → Bool
is_insert_of key (Insert pass k value) = k == key
is_insert_of key _ = false

-- the line of the key's first insert, and that of its first removal
abbrev pub insert_line : List (ℕ × Entry) → ℕ → Option ℕ
insert_line lines key = first_number (is_insert_of key) lines

abbrev pub removal_line : List (ℕ × Entry) → ℕ → Option ℕ
removal_line lines key = first_number (is_removal_of key) lines

abbrev pub key_of : Entry → ℕ
key_of (Insert pass key value) = key
key_of (Got pass key value) = key
key_of (Gone pass key) = key
key_of (Crowded pass key) = key
key_of (Removed pass key) = key
key_of (Released pass key) = key
key_of (Seen pass key value) = key

-- the line that an entry on the key clashes with for this reason: that of the insert, that of the removal, or none, if
-- the reason is that something is missing
abbrev pub clash_line : List (ℕ × Entry) → ℕ → Why → Option ℕ
clash_line lines key NotNew = insert_line lines key
clash_line lines key OtherValue = insert_line lines key
clash_line lines key StillThere = insert_line lines key
clash_line lines key AfterRemoval = removal_line lines key
clash_line lines key _ = None
