-- What does not hold: the laws without a premise, and an order of each caller's entries.
use Rattle.std.specs.Prelude.{◌≡◌, ℕ, ◌==◌, ◌↔◌, List, map}
use Rattle.sh_history.specs.declared.entry.Entry.{Entry}
use Rattle.sh_history.specs.History.{Legal}
use Rattle.sh_history.specs.Log.{entries_of}
use Rattle.history_local.specs.Groups.{AreApart, IsInterleaving, renamed}

-- `InterleavingsAreLegal` of histories that may share keys
abbrev pub AnyInterleavingIsLegal : Type 0
AnyInterleavingIsLegal =
    (passes guard_max : ℕ) (left right both : List Entry) → IsInterleaving left right both
    → Legal passes guard_max both ↔ (Legal passes guard_max left × Legal passes guard_max right)

-- `KeysMayBeRenamed` by names that keys may share
abbrev pub KeysMayBeJoined : Type 0
KeysMayBeJoined =
    (passes guard_max : ℕ) (name : ℕ → ℕ) (history : List Entry)
    → Legal passes guard_max history ↔ Legal passes guard_max (map (renamed name) history)

-- the entries of one pass
abbrev pub entries_by : ℕ → List Entry → List Entry
entries_by pass history = entries_of (λ p. p == pass) history

-- Legal histories that share no key, and the calls of both in an order in which each pass's own entries of either
-- history are in order. No legal history has each pass's entries in that order.
abbrev pub CallersOrderIsNotLocal : Type 0
CallersOrderIsNotLocal =
    (passes guard_max : ℕ) → (left : List Entry) × (right : List Entry) × (calls : List Entry)
    × Legal passes guard_max left × Legal passes guard_max right × AreApart left right
    × ((pass : ℕ) → IsInterleaving (entries_by pass left) (entries_by pass right) (entries_by pass calls))
    × ((history : List Entry) → Legal passes guard_max history
    → ¬ ((pass : ℕ) → entries_by pass history ≡ entries_by pass calls))
