-- Which histories are legal: those of a map with counted holds, whose keys are never used again.
use Rattle.std.specs.Prelude.{◌≡◌, ℕ, ◌+◌, ◌-◌, ◌<◌, Bool, true, false, ◌==◌, ◌&&◌, if◌then◌else◌, ◌⊎◌, List, [], ◌∷◌}
use Rattle.std.specs.Prelude.{◌++◌, Option, Some, None, IsSome, count_by}
use Rattle.std.specs.List.{list_any}
use Rattle.sh_history.specs.declared.entry.Entry.{Entry}
use Rattle.sh_history.specs.declared.entry.Entry.TheVariants.{Insert, Got, Gone, Crowded, Removed, Released, Seen}

-- the value that the key was issued with
abbrev pub value_of : List Entry → ℕ → Option (List ℕ)
value_of [] key = None
value_of (Insert pass k value ∷ rest) key = if k == key then Some value else value_of rest key
value_of (_ ∷ rest) key = value_of rest key

abbrev pub is_removal_of : ℕ → Entry → Bool
is_removal_of key (Removed pass k) = k == key
is_removal_of key _ = false

-- whether the key was removed
abbrev pub is_removed : List Entry → ℕ → Bool
is_removed history key = list_any (is_removal_of key) history

-- the value of a key that was issued and not removed
abbrev pub present_value : List Entry → ℕ → Option (List ℕ)
present_value history key = if is_removed history key then None else value_of history key

abbrev pub is_got_of : ℕ → Entry → Bool
is_got_of key (Got pass k value) = k == key
is_got_of key _ = false

abbrev pub is_release_of : ℕ → Entry → Bool
is_release_of key (Released pass k) = k == key
is_release_of key _ = false

abbrev pub is_got_by : ℕ → ℕ → Entry → Bool
is_got_by pass key (Got p k value) = (p == pass) && (k == key)
is_got_by pass key _ = false

abbrev pub is_release_by : ℕ → ℕ → Entry → Bool
is_release_by pass key (Released p k) = (p == pass) && (k == key)
is_release_by pass key _ = false

abbrev pub got_count : List Entry → ℕ → ℕ
got_count history key = count_by (is_got_of key) history

abbrev pub released_count : List Entry → ℕ → ℕ
released_count history key = count_by (is_release_of key) history

abbrev pub got_count_by : List Entry → ℕ → ℕ → ℕ
got_count_by history pass key = count_by (is_got_by pass key) history

abbrev pub released_count_by : List Entry → ℕ → ℕ → ℕ
released_count_by history pass key = count_by (is_release_by pass key) history

abbrev pub is_insert : Entry → Bool
is_insert (Insert pass key value) = true
is_insert _ = false

abbrev pub insert_count : List Entry → ℕ
insert_count history = count_by is_insert history

abbrev pub is_got_from : ℕ → Entry → Bool
is_got_from pass (Got p k value) = p == pass
is_got_from pass _ = false

abbrev pub is_release_from : ℕ → Entry → Bool
is_release_from pass (Released p k) = p == pass
is_release_from pass _ = false

-- how many holds the pass has, over all keys
abbrev pub hold_count : List Entry → ℕ → ℕ
hold_count history pass = count_by (is_got_from pass) history - count_by (is_release_from pass) history

-- how many holds there are on the key
abbrev pub holds_on : List Entry → ℕ → ℕ
holds_on history key = got_count history key - released_count history key

-- how many of them the pass has
abbrev pub holds_by : List Entry → ℕ → ℕ → ℕ
holds_by history pass key = got_count_by history pass key - released_count_by history pass key

-- the key has this value, and was not removed
abbrev pub MayRead : List Entry → ℕ → List ℕ → Type 0
MayRead before key value = (value_of before key ≡ Some value) × (is_removed before key ≡ false)

-- the entry may follow these
abbrev pub Allowed : (passes guard_max : ℕ) → List Entry → Entry → Type 0
Allowed passes guard_max before (Insert pass key value) = value_of before key ≡ None
Allowed passes guard_max before (Got pass key value) = MayRead before key value
Allowed passes guard_max before (Seen pass key value) = MayRead before key value
Allowed passes guard_max before (Gone pass key) =
    (value_of before key ≡ None) ⊎ (is_removed before key ≡ true)
Allowed passes guard_max before (Crowded pass key) =
    IsSome (value_of before key) × (is_removed before key ≡ false)
    × (guard_max < holds_on before key + passes)
Allowed passes guard_max before (Removed pass key) =
    IsSome (value_of before key) × (is_removed before key ≡ false)
Allowed passes guard_max before (Released pass key) = 0 < holds_by before pass key

-- each of these entries may follow those before it
abbrev pub LegalAfter : (passes guard_max : ℕ) → List Entry → List Entry → Type 0
LegalAfter passes guard_max before [] = Unit {0}
LegalAfter passes guard_max before (entry ∷ rest) =
    Allowed passes guard_max before entry × LegalAfter passes guard_max (before ++ entry ∷ []) rest

abbrev pub Legal : (passes guard_max : ℕ) → List Entry → Type 0
Legal passes guard_max history = LegalAfter passes guard_max [] history
