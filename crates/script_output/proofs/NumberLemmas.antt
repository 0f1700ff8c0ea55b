-- The text of words, word by word.
use Rattle.std.proofs.Common.{◌≡◌, ℕ, zero, suc, ◌+◌, ◌<◌, ◌≤◌, List, [], ◌∷◌, ◌++◌, length, take, slice_index_or}
use Rattle.std.proofs.Common.{arith, length-append, codes, decimal, Result, Ok, Err, OnErr}
use Rattle.script_output.specs.Numbers.{words_text}

-- the text of a word, and of all before it, is no longer than that of all words
piece_fits : (words : List ℕ) (i : ℕ) → i < length words
    → length (words_text (take i words)) + (1 + length (decimal (slice_index_or words i 0))) ≤ length (words_text words)
piece_fits [] i below = absurd (omega (arith, below))
piece_fits (x ∷ xs) zero below =
    omega (arith, length-append (codes " " ++ decimal x) (words_text xs), length-append (codes " ") (decimal x))
piece_fits (x ∷ xs) (suc i) below =
    let rest = piece_fits xs i (omega (arith, below)) in
    omega (
      arith,
      rest,
      length-append (codes " " ++ decimal x) (words_text (take i xs)),
      length-append (codes " " ++ decimal x) (words_text xs),
    )

-- if a word's part finds no room after the words before it, all words find none
pub no_room : {T E : Type 0} (r : Result T E) (words : List ℕ) (i room now before old len part : ℕ) → i < length words
    → part ≤ 1 + length (decimal (slice_index_or words i 0)) → room ≤ now → now < len + part
    → len ≡ old + length (words_text (take i words)) → before ≡ old
    → OnErr r (room < before + length (words_text words))
no_room (Ok x) words i room now before old len part below few more full is same = tt
no_room (Err e) words i room now before old len part below few more full is same =
    let fits = piece_fits words i below in
    omega (arith, fits, few, more, full, is, same)
