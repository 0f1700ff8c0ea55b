-- What calls say of a key.
use Rattle.std.specs.Prelude.{◌≡◌, ℕ, ◌==◌, ◌&&◌, ◌||◌, Bool, false, if◌then◌else◌, List, [], Option, Some, None}
use Rattle.std.specs.Option.{unwrap_or}
use Rattle.sh_history.specs.History.{value_of, is_got_of, is_got_by, is_release_of, is_release_by}
use Rattle.sh_history.specs.declared.entry.Entry.{Entry}
use Rattle.sh_history.specs.declared.entry.Entry.TheVariants.{Insert, Got, Crowded, Removed, Seen}
use Rattle.sh_history.specs.Log.{pass_of}
use Rattle.history_audit.specs.Lines.{key_of}
use Rattle.history_timed.specs.declared.call.Said.{Said}
use Rattle.history_timed.specs.declared.call.Said.TheVariants.{Known, Unread}

-- the entry may be the one that was said
abbrev pub MayBe : Said → Entry → Type 0
MayBe (Known known) entry = entry ≡ known
MayBe (Unread pass key) entry = (value : List ℕ) × (entry ≡ Got pass key value)

-- the entry that is said after these. A get whose value was not read gave the one that its key was inserted with; of a
-- key that was not inserted it gave any value, as it is not allowed
abbrev pub entry_said : List Entry → Said → Entry
entry_said before (Known entry) = entry
entry_said before (Unread pass key) = Got pass key (unwrap_or (value_of before key) [])

abbrev pub key_said : Said → ℕ
key_said (Known entry) = key_of entry
key_said (Unread pass key) = key

abbrev pub pass_said : Said → ℕ
pass_said (Known entry) = pass_of entry
pass_said (Unread pass key) = pass

-- what is said inserted the key, used its value, or removed the key
abbrev pub inserts : ℕ → Said → Bool
inserts key (Known (Insert pass k value)) = k == key
inserts key _ = false

abbrev pub uses : ℕ → Said → Bool
uses key (Known (Got pass k value)) = k == key
uses key (Known (Crowded pass k)) = k == key
uses key (Known (Seen pass k value)) = k == key
uses key (Unread pass k) = k == key
uses key _ = false

-- the value of the key that a get of it or a look at it returned
abbrev pub returned : ℕ → Said → Option (List ℕ)
returned key (Known (Got pass k value)) = if k == key then Some value else None
returned key (Known (Seen pass k value)) = if k == key then Some value else None
returned key _ = None

abbrev pub removes : ℕ → Said → Bool
removes key (Known (Removed pass k)) = k == key
removes key _ = false

-- it inserted the key, or removed it
abbrev pub changes : ℕ → Said → Bool
changes key said = inserts key said || removes key said

-- it is one of the three: the key had been inserted then
abbrev pub finds : ℕ → Said → Bool
finds key said = inserts key said || (uses key said || removes key said)

-- it got a hold on the key, or released one, for any pass or for one
abbrev pub gets : ℕ → Said → Bool
gets key (Known entry) = is_got_of key entry
gets key (Unread pass k) = k == key

abbrev pub releases : ℕ → Said → Bool
releases key (Known entry) = is_release_of key entry
releases key (Unread pass k) = false

abbrev pub gets_by : ℕ → ℕ → Said → Bool
gets_by pass key (Known entry) = is_got_by pass key entry
gets_by pass key (Unread p k) = (p == pass) && (k == key)

abbrev pub releases_by : ℕ → ℕ → Said → Bool
releases_by pass key (Known entry) = is_release_by pass key entry
releases_by pass key (Unread p k) = false
