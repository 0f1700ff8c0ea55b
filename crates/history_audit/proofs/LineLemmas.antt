-- Numbered entries, and one more of them.
use Rattle.std.proofs.Common.{◌≡◌, ℕ, Bool, true, false, cond, List, [], ◌∷◌, ◌++◌, Option, Some, None, refl}
use Rattle.std.proofs.Common.{ap}
use Rattle.std.specs.Prelude.{is_some, ◌||◌, ◌==◌}
use Rattle.std.specs.List.{list_any}
use Rattle.std.specs.Option.{option_or}
use Rattle.sh_history.specs.declared.entry.Entry.{Entry}
use Rattle.sh_history.specs.declared.entry.Entry.TheVariants.{Insert}
use Rattle.sh_history.specs.History.{value_of, is_removed, is_removal_of}
use Rattle.history_audit.specs.Lines.{entries_in, first_number, removal_line}

-- some entry passes a test if there is a first one
pub any_is_first : (test : Entry → Bool) (lines : List (ℕ × Entry)) → list_any test (entries_in lines)
    ≡ is_some (first_number test lines)
any_is_first test [] = refl
any_is_first test (l ∷ ls) = go (test l.1) (any_is_first test ls) where
  go : (b : Bool) → list_any test (entries_in ls) ≡ is_some (first_number test ls)
      → (b || list_any test (entries_in ls)) ≡ is_some (cond b (Some l.0) (first_number test ls))
  go true later = refl
  go false later = later

pub removed_by_line : (lines : List (ℕ × Entry)) (key : ℕ) → is_removed (entries_in lines) key
    ≡ is_some (removal_line lines key)
removed_by_line lines key = any_is_first (is_removal_of key) lines

pub entries_in-push : (lines : List (ℕ × Entry)) (line : ℕ) (entry : Entry)
    → entries_in (lines ++ (line, entry) ∷ []) ≡ entries_in lines ++ entry ∷ []
entries_in-push [] line entry = refl
entries_in-push (l ∷ ls) line entry = ap (λ es. l.1 ∷ es) (entries_in-push ls line entry)

pub first_number-push : (test : Entry → Bool) (lines : List (ℕ × Entry)) (line : ℕ) (entry : Entry)
    → first_number test (lines ++ (line, entry) ∷ [])
    ≡ option_or (first_number test lines) (cond (test entry) (Some line) None)
first_number-push test [] line entry = refl
first_number-push test (l ∷ ls) line entry = go (test l.1) (first_number-push test ls line entry) where
  go : (b : Bool) → first_number test (ls ++ (line, entry) ∷ [])
      ≡ option_or (first_number test ls) (cond (test entry) (Some line) None)
      → cond b (Some l.0) (first_number test (ls ++ (line, entry) ∷ []))
      ≡ option_or (cond b (Some l.0) (first_number test ls)) (cond (test entry) (Some line) None)
  go true later = refl
  go false later = later

-- the value that the key is inserted with, if this is its insert
abbrev pub value_by : Entry → ℕ → Option (List ℕ)
value_by entry key = value_of (entry ∷ []) key

pub value_of-push : (entries : List Entry) (entry : Entry) (key : ℕ) → value_of (entries ++ entry ∷ []) key
    ≡ option_or (value_of entries key) (value_by entry key)
value_of-push [] entry key = refl
value_of-push (Insert p k v ∷ es) entry key = go (k == key) (value_of-push es entry key) where
  go : (b : Bool) → value_of (es ++ entry ∷ []) key ≡ option_or (value_of es key) (value_by entry key)
      → cond b (Some v) (value_of (es ++ entry ∷ []) key)
      ≡ option_or (cond b (Some v) (value_of es key)) (value_by entry key)
  go true later = refl
  go false later = later
value_of-push (_ ∷ es) entry key = value_of-push es entry key
