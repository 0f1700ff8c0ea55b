-- What a note says of its key. Of a key without a note nothing is noted.
use Rattle.std.specs.Prelude.{◌≡◌, ℕ, List, Option, Some, None, option_map}
use Rattle.sh_history.specs.History.{value_of, got_count, released_count, Allowed}
use Rattle.sh_history.specs.FirstFault.{IsWhy}
use Rattle.sh_history.specs.declared.entry.Entry.{Entry}
use Rattle.history_audit.specs.declared.note.Note.{Note}
use Rattle.history_audit.specs.declared.clash.Clash.{Clash}
use Rattle.history_audit.specs.Lines.{entries_in, insert_line, removal_line, key_of, clash_line}

abbrev pub noted_removal : Option Note → Option ℕ
noted_removal None = None
noted_removal (Some note) = note.removed

abbrev pub noted_got : Option Note → ℕ
noted_got None = 0
noted_got (Some note) = note.got

abbrev pub noted_released : Option Note → ℕ
noted_released None = 0
noted_released (Some note) = note.released

-- the note says of the key what these lines say of it
pub record IsNote (lines : List (ℕ × Entry)) (key : ℕ) (note : Option Note) : Type 0 where
  pub value : option_map (λ (n : Note). n.value) note ≡ value_of (entries_in lines) key
  pub inserted : option_map (λ (n : Note). n.inserted) note ≡ insert_line lines key
  pub removed : noted_removal note ≡ removal_line lines key
  pub got : noted_got note ≡ got_count (entries_in lines) key
  pub released : noted_released note ≡ released_count (entries_in lines) key

-- the entry may not follow these lines for the first such reason, and clashes with this one of them, if with any
pub record IsClash (passes guard_max : ℕ) (lines : List (ℕ × Entry)) (entry : Entry) (clash : Clash) : Type 0 where
  pub is_why : IsWhy passes guard_max (entries_in lines) entry clash.why
  pub by : clash.by ≡ clash_line lines (key_of entry) clash.why

-- the entry is judged rightly after these lines: no clash says that it is allowed
abbrev pub IsJudged : (passes guard_max : ℕ) → List (ℕ × Entry) → Entry → Option Clash → Type 0
IsJudged passes guard_max lines entry None = Allowed passes guard_max (entries_in lines) entry
IsJudged passes guard_max lines entry (Some clash) = IsClash passes guard_max lines entry clash
