-- What an audit knows of the lines that it has taken in.
use Rattle.std.specs.Prelude.{◌≡◌, ℕ, ◌+◌, List}
use Rattle.std.specs.Prelude.{nat_eq}
use Rattle.std.specs.HashMap.{get, hash_map_len}
use Rattle.sh_history.specs.History.{got_count_by, released_count_by, insert_count, Legal}
use Rattle.sh_history.specs.declared.entry.Entry.{Entry}
use Rattle.history_audit.specs.declared.audit.Audit.{Audit}
use Rattle.history_audit.specs.Lines.{entries_in}
use Rattle.history_audit.specs.Noted.{IsNote}
use Rattle.history_audit.specs.Held.{held}

-- the notes and holds of the audit are those of these lines, which are legal
pub record Follows (audit : Audit) (lines : List (ℕ × Entry)) : Type 0 where
  pub legal : Legal audit.passes audit.guard_max (entries_in lines)
  pub notes : (key : ℕ) → IsNote lines key (get nat_eq audit.notes key)
  pub holds : (pass key : ℕ) → held audit.holds pass key + released_count_by (entries_in lines) pass key
      ≡ got_count_by (entries_in lines) pass key
  pub keys : hash_map_len audit.notes ≡ insert_count (entries_in lines)
