-- An audit follows one more line.
use Rattle.std.proofs.Common.{◌≡◌, ℕ, ◌+◌, ◌<◌, cond, List, [], ◌∷◌, ◌++◌, arith}
use Rattle.std.specs.Prelude.{nat_eq}
use Rattle.std.specs.HashMap.{get, hash_map_len}
use Rattle.sh_history.specs.declared.entry.Entry.{Entry}
use Rattle.sh_history.specs.History.{is_got_by, is_release_by, is_insert, holds_by}
use Rattle.sh_history.specs.History.{Allowed}
use Rattle.sh_history.proofs.Laws.{legal_more}
use Rattle.sh_history.proofs.LogLaws.{count_by-push}
use Rattle.history_audit.specs.declared.audit.Audit.{Audit}
use Rattle.history_audit.specs.Lines.{entries_in}
use Rattle.history_audit.specs.Noted.{IsNote}
use Rattle.history_audit.specs.Held.{held}
use Rattle.history_audit.specs.Followed.{Follows}
use Rattle.history_audit.proofs.LineLemmas.{entries_in-push}

-- the two audits are of one map
pub record IsSame (a b : Audit) : Type 0 where
  pub passes : b.passes ≡ a.passes
  pub guard_max : b.guard_max ≡ a.guard_max

-- an entry that is allowed, with what it changes
pub record Takes (a b : Audit) (lines : List (ℕ × Entry)) (line : ℕ) (entry : Entry) : Type 0 where
  pub same : IsSame a b
  pub allowed : Allowed a.passes a.guard_max (entries_in lines) entry
  pub notes : (key : ℕ) → IsNote (lines ++ (line, entry) ∷ []) key (get nat_eq b.notes key)
  pub holds : (p k : ℕ) → held b.holds p k + cond (is_release_by p k entry) 1 0
      ≡ held a.holds p k + cond (is_got_by p k entry) 1 0
  pub keys : hash_map_len b.notes ≡ hash_map_len a.notes + cond (is_insert entry) 1 0

pub follows_push : (a b : Audit) (lines : List (ℕ × Entry)) (line : ℕ) (entry : Entry) → Follows a lines
    → Takes a b lines line entry → Follows b (lines ++ (line, entry) ∷ [])
follows_push a b lines line entry is takes = record {
  legal =
      rw (takes.same.passes, takes.same.guard_max, entries_in-push lines line entry)
      (legal_more a.passes a.guard_max (entries_in lines) entry is.legal takes.allowed);
  notes = takes.notes;
  holds = λ pass key.
      rw (
        entries_in-push lines line entry,
        count_by-push (is_release_by pass key) (entries_in lines) entry,
        count_by-push (is_got_by pass key) (entries_in lines) entry,
      ) (let old = is.holds pass key in let new = takes.holds pass key in omega arith);
  keys =
      rw (entries_in-push lines line entry, count_by-push is_insert (entries_in lines) entry)
      (let old = is.keys in let new = takes.keys in omega arith);
}

-- a hold that may be released is noted
pub is_held : (a : Audit) (lines : List (ℕ × Entry)) (pass key : ℕ) → Follows a lines
    → 0 < holds_by (entries_in lines) pass key → 0 < held a.holds pass key
is_held a lines pass key is some = let counts = is.holds pass key in omega arith
