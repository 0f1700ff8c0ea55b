-- What the operations on a state word do to its fields: each changes one field and leaves the rest.
use Rattle.std.specs.Prelude.{ℕ, ◌≡◌, ◌+◌, ◌-◌, ◌%◌, ◌^◌, ◌<◌, true, bit_or}
use Rattle.sh_word.specs.Fields.{fields_of}

-- Adding 1 to a word whose count has room makes the count one more; the word does not wrap.
abbrev pub AddingRaisesCount : Type 0
AddingRaisesCount =
    (w : ℕ) → w < 2 ^ 64 → (fields_of w).count < 2 ^ 30 - 1 →
    fields_of ((w + 1) % 2 ^ 64) ≡ record (fields_of w) { count = (fields_of w).count + 1 }

-- Subtracting 1, which is to add 2^64 - 1 and wrap, makes a count above 0 one less.
abbrev pub SubtractingLowersCount : Type 0
SubtractingLowersCount =
    (w : ℕ) → w < 2 ^ 64 → 0 < (fields_of w).count →
    fields_of ((w + (2 ^ 64 - 1)) % 2 ^ 64) ≡ record (fields_of w) { count = (fields_of w).count - 1 }

-- An `or` of a word with this bit marks it.
abbrev pub OrMarks : ℕ → Type 0
OrMarks bit = (w : ℕ) → fields_of (bit_or w bit) ≡ record (fields_of w) { marked = true }

-- An `or` of a word with this bit makes it present.
abbrev pub OrMakesPresent : ℕ → Type 0
OrMakesPresent bit = (w : ℕ) → fields_of (bit_or w bit) ≡ record (fields_of w) { present = true }
