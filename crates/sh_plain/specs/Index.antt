-- What a plain store looks up in place of going through its entries.
use Rattle.std.specs.Prelude.{◌≡◌, ℕ, ◌+◌, ◌-◌, nat_lt, Bool, false, ◌==◌, ◌&&◌, if◌then◌else◌, List, Option, Some}
use Rattle.std.specs.Prelude.{None, slice_get, count_by}
use Rattle.sh_history.specs.declared.entry.Entry.{Entry}
use Rattle.sh_history.specs.History.{value_of, is_removed, got_count_by, released_count_by, got_count, released_count}
use Rattle.sh_history.specs.History.{is_got_from, is_release_from}
use Rattle.sh_plain.specs.declared.index.Issued.{Issued}
use Rattle.sh_plain.specs.declared.index.Held.{Held}

-- what is known of the key; the first item is for the first key, and each further item for the next key
abbrev pub issued_at : ℕ → List Issued → ℕ → Option Issued
issued_at first issued key = if nat_lt key first then None else slice_get issued (key - first)

abbrev pub issued_value : Option Issued → Option (List ℕ)
issued_value None = None
issued_value (Some issued) = Some issued.value

abbrev pub issued_removed : Option Issued → Bool
issued_removed None = false
issued_removed (Some issued) = issued.removed

abbrev pub is_hold_by : ℕ → ℕ → Held → Bool
is_hold_by pass key held = (held.pass == pass) && (held.key == key)

abbrev pub is_hold_of : ℕ → Held → Bool
is_hold_of pass held = held.pass == pass

abbrev pub is_hold_on : ℕ → Held → Bool
is_hold_on key held = held.key == key

-- the items say of each key what the entries say, and the holds are those that the entries leave: what was got was
-- released or is held
pub record IsIndex (first : ℕ) (entries : List Entry) (issued : List Issued) (holds : List Held) : Type 0 where
  pub values : (key : ℕ) → value_of entries key ≡ issued_value (issued_at first issued key)
  pub removals : (key : ℕ) → is_removed entries key ≡ issued_removed (issued_at first issued key)
  pub held_by : (pass key : ℕ) → got_count_by entries pass key ≡ released_count_by entries pass key + count_by
      (is_hold_by pass key) holds
  pub held_of : (pass : ℕ) → count_by (is_got_from pass) entries ≡ count_by (is_release_from pass) entries + count_by
      (is_hold_of pass) holds
  pub held_on : (key : ℕ) → got_count entries key ≡ released_count entries key + count_by (is_hold_on key) holds
