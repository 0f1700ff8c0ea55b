-- Legality, key by key.
use Rattle.std.specs.Prelude.{◌≡◌, ℕ, ◌<◌, ◌↔◌, List, map}
use Rattle.sh_history.specs.declared.entry.Entry.{Entry}
use Rattle.sh_history.specs.History.{Legal}
use Rattle.history_local.specs.Groups.{entries_on_key, entries_in, IsWithin, AreApart, IsInterleaving, renamed}
use Rattle.history_local.specs.Groups.{IsOneToOne}

-- a history is legal exactly if for each key the entries on it are
abbrev pub LegalityIsLocal : Type 0
LegalityIsLocal =
    (passes guard_max : ℕ) (history : List Entry) → Legal passes guard_max history
    ↔ ((key : ℕ) → Legal passes guard_max (entries_on_key key history))

-- the same for groups of keys: the entries of each group are legal
abbrev pub GroupsAreLegal : Type 0
GroupsAreLegal =
    (passes guard_max : ℕ) (group_of : ℕ → ℕ) (history : List Entry) → Legal passes guard_max history
    ↔ ((group : ℕ) → Legal passes guard_max (entries_in group_of group history))

-- an interleaving of histories that share no key is legal exactly if both are
abbrev pub InterleavingsAreLegal : Type 0
InterleavingsAreLegal =
    (passes guard_max : ℕ) (left right both : List Entry) → AreApart left right → IsInterleaving left right both
    → Legal passes guard_max both ↔ (Legal passes guard_max left × Legal passes guard_max right)

-- legal histories of the first `count` groups have a legal history of all, in which the entries of each group are its
-- history, in order
abbrev pub OneHistoryOfAll : Type 0
OneHistoryOfAll =
    (passes guard_max : ℕ) (group_of : ℕ → ℕ) (count : ℕ) (histories : ℕ → List Entry)
    → ((group : ℕ) → group < count
    → IsWithin group_of group (histories group) × Legal passes guard_max (histories group))
    → (all : List Entry) × Legal passes guard_max all
    × ((group : ℕ) → group < count → entries_in group_of group all ≡ histories group)

-- with names that are one to one, a history is legal exactly if it is with its keys renamed
abbrev pub KeysMayBeRenamed : Type 0
KeysMayBeRenamed =
    (passes guard_max : ℕ) (name : ℕ → ℕ) → IsOneToOne name → (history : List Entry)
    → Legal passes guard_max history ↔ Legal passes guard_max (map (renamed name) history)
