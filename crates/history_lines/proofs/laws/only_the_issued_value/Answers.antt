use Rattle.std.proofs.Common.{◌≡◌, ℕ, List, refl}
use Rattle.sh_history.specs.History.{Allowed}
use Rattle.sh_history.specs.declared.entry.Entry.{Entry}
use Rattle.sh_history.specs.declared.entry.Entry.TheVariants.{Got}
use Rattle.history_timed.specs.declared.call.Said.{Said}
use Rattle.history_timed.specs.declared.call.Said.TheVariants.{Known, Unread}
use Rattle.history_timed.specs.Calls.{entry_said, MayBe}
use Rattle.history_lines.proofs.laws.only_the_issued_value.Goals as goal

only : (passes guard_max : ℕ) (before : List Entry) (s : Said) (entry : Entry) → MayBe s entry
    → Allowed passes guard_max before entry → entry ≡ entry_said before s
only passes guard_max before (Known known) entry may allowed = may
only passes guard_max before (Unread pass key) entry may allowed =
    let got : Allowed passes guard_max before (Got pass key may.0) = rw may.1 at allowed in
    rw (may.1, got.0) refl

pub returns : goal.returns
returns c = only
