-- The entries of a history on some of its keys, interleavings of two histories, and keys with other names.
use Rattle.std.specs.Prelude.{◌≡◌, ℕ, Bool, ◌==◌, ◌⊎◌, List, [], ◌∷◌, filter}
use Rattle.sh_history.specs.declared.entry.Entry.{Entry}
use Rattle.sh_history.specs.declared.entry.Entry.TheVariants.{Insert, Got, Gone, Crowded, Removed, Released, Seen}

-- the key that the entry is on
abbrev pub key_of : Entry → ℕ
key_of (Insert pass key value) = key
key_of (Got pass key value) = key
key_of (Gone pass key) = key
key_of (Crowded pass key) = key
key_of (Removed pass key) = key
key_of (Released pass key) = key
key_of (Seen pass key value) = key

-- the entries on the keys that are chosen
abbrev pub entries_on : (ℕ → Bool) → List Entry → List Entry
entries_on is_chosen history = filter (λ entry. is_chosen (key_of entry)) history

-- the entries on one key
abbrev pub entries_on_key : ℕ → List Entry → List Entry
entries_on_key key history = entries_on (λ k. k == key) history

-- the entries on the keys of one group, if `group_of` says of each key in which group it is
abbrev pub entries_in : (ℕ → ℕ) → ℕ → List Entry → List Entry
entries_in group_of group history = entries_on (λ key. group_of key == group) history

-- each entry is on a key of this group
abbrev pub IsWithin : (ℕ → ℕ) → ℕ → List Entry → Type 0
IsWithin group_of group history = entries_in group_of group history ≡ history

-- no key has entries in both
abbrev pub AreApart : List Entry → List Entry → Type 0
AreApart left right = (key : ℕ) → (entries_on_key key left ≡ []) ⊎ (entries_on_key key right ≡ [])

-- the last list has the entries of the other two, each in its own order
abbrev pub IsInterleaving : List Entry → List Entry → List Entry → Type 0
IsInterleaving left right [] = (left ≡ []) × (right ≡ [])
IsInterleaving left right (entry ∷ rest) =
    ((others : List Entry) × (left ≡ entry ∷ others) × IsInterleaving others right rest)
    ⊎ ((others : List Entry) × (right ≡ entry ∷ others) × IsInterleaving left others rest)

-- the same entry on the key of the new name
abbrev pub renamed : (ℕ → ℕ) → Entry → Entry
renamed name (Insert pass key value) = Insert pass (name key) value
renamed name (Got pass key value) = Got pass (name key) value
renamed name (Gone pass key) = Gone pass (name key)
renamed name (Crowded pass key) = Crowded pass (name key)
renamed name (Removed pass key) = Removed pass (name key)
renamed name (Released pass key) = Released pass (name key)
renamed name (Seen pass key value) = Seen pass (name key) value

-- no two keys get one name
abbrev pub IsOneToOne : (ℕ → ℕ) → Type 0
IsOneToOne name = (one other : ℕ) → name one ≡ name other → one ≡ other
