-- What a get may have given whose value was not read.
use Rattle.std.specs.Prelude.{◌≡◌, ℕ, List}
use Rattle.sh_history.specs.History.{Allowed}
use Rattle.sh_history.specs.declared.entry.Entry.{Entry}
use Rattle.history_timed.specs.declared.call.Said.{Said}
use Rattle.history_timed.specs.Calls.{MayBe, entry_said}

-- of the entries that may be the one that was said, no other than the one that is judged is allowed
abbrev pub OnlyTheIssuedValue : Type 0
OnlyTheIssuedValue =
    (passes guard_max : ℕ) (before : List Entry) (s : Said) (entry : Entry) → MayBe s entry
    → Allowed passes guard_max before entry → entry ≡ entry_said before s
