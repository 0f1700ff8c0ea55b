-- The histories of chunks, as one history.
use Rattle.std.proofs.Common.{◌≡◌, ℕ, ◌<◌, Bool, true, false, List, [], ◌∷◌, refl, ◌∙◌, ap, arith, cond, eq-eqb, map}
use Rattle.std.proofs.Common.{eqb-true}
use Rattle.std.specs.Prelude.{◌==◌, ◌+◌, ◌*◌, ◌^◌, ◌/◌, ◌%◌}
use Rattle.std.proofs.lemmas.Nat.{div-mul-add}
use Rattle.std.proofs.lemmas.List.Elements.{All-cons, All-head, All-nil, All-tail}
use Rattle.std.proofs.lemmas.Bool.{false≢true}
use Rattle.sh_history.specs.declared.entry.Entry.{Entry}
use Rattle.sh_history.specs.declared.entry.Entry.TheVariants.{Insert, Got, Gone, Crowded, Removed, Released, Seen}
use Rattle.history_local.specs.Groups.{key_of, entries_in, IsWithin, renamed, IsOneToOne}
use Rattle.history_local.proofs.Groups.{groups_are_legal, one_history_of_all}
use Rattle.history_local.proofs.Renaming.{keys_may_be_renamed}
use Rattle.sh_chunk.specs.Chunks.{with_chunk, chunk_of, key_within}
use Rattle.sh_chunk.specs.Histories.{of_chunk, fitting, KeysFit, OneHistoryOfChunks}

is_renamed : (name : ℕ → ℕ) (e : Entry) → key_of (renamed name e) ≡ name (key_of e)
is_renamed name (Insert pass key value) = refl
is_renamed name (Got pass key value) = refl
is_renamed name (Gone pass key) = refl
is_renamed name (Crowded pass key) = refl
is_renamed name (Removed pass key) = refl
is_renamed name (Released pass key) = refl
is_renamed name (Seen pass key value) = refl

module _ (chunk : ℕ) where
  is_of_chunk : (key : ℕ) → key < 2 ^ 56 → chunk_of (with_chunk key chunk) ≡ chunk
  is_of_chunk key fits = div-mul-add chunk (2 ^ 56) key fits

  stays : (x : Entry) (xs ys : List Entry) (b : Bool) → b ≡ true → ys ≡ xs → cond b (x ∷ ys) ys ≡ x ∷ xs
  stays x xs ys true is same = ap (λ l. x ∷ l) same
  stays x xs ys false is same = absurd (false≢true is)

  is_within : (history : List Entry) → KeysFit history → IsWithin chunk_of chunk (of_chunk chunk history)
  is_within [] fits = refl
  is_within (e ∷ rest) fits =
      let name = λ (key : ℕ). with_chunk key chunk in
      let own : chunk_of (key_of (renamed name e)) ≡ chunk =
      ap (λ n. chunk_of n) (is_renamed name e)
      ∙ is_of_chunk (key_of e) (All-head (λ entry. key_of entry < 2 ^ 56) e rest fits) in
      let later = is_within rest (All-tail (λ entry. key_of entry < 2 ^ 56) e rest fits) in
      stays (renamed name e) (of_chunk chunk rest) (entries_in chunk_of chunk (of_chunk chunk rest))
      (chunk_of (key_of (renamed name e)) == chunk) (eq-eqb (chunk_of (key_of (renamed name e))) chunk own) later

  one_to_one : IsOneToOne (λ key. with_chunk key chunk)
  one_to_one one other same =
      let e : chunk * 2 ^ 56 + one ≡ chunk * 2 ^ 56 + other = same in
      omega arith

-- ---- entries on keys below 2^56

below : (key : ℕ) → key / 2 ^ 56 ≡ 0 → key < 2 ^ 56
below key first = omega (arith, first)

pub first_chunk : (key : ℕ) → key < 2 ^ 56 → key / 2 ^ 56 ≡ 0
first_chunk key fits = omega (arith, fits)

fits_step : (e : Entry) (xs : List Entry) (b : Bool) → (chunk_of (key_of e) == 0) ≡ b → KeysFit xs
    → KeysFit (cond b (e ∷ xs) xs)
fits_step e xs true is fits =
    All-cons (λ entry. key_of entry < 2 ^ 56) e xs (below (key_of e) (eqb-true (chunk_of (key_of e)) 0 is)) fits
fits_step e xs false is fits = fits

fitting_fits : (history : List Entry) → KeysFit (fitting history)
fitting_fits [] = All-nil (λ entry. key_of entry < 2 ^ 56)
fitting_fits (e ∷ rest) = fits_step e (fitting rest) (chunk_of (key_of e) == 0) refl (fitting_fits rest)

all_fitting : (history : List Entry) → KeysFit history → fitting history ≡ history
all_fitting [] fits = refl
all_fitting (e ∷ rest) fits =
    let here = first_chunk (key_of e) (All-head (λ entry. key_of entry < 2 ^ 56) e rest fits) in
    stays 0 e rest (fitting rest) (chunk_of (key_of e) == 0) (eq-eqb (chunk_of (key_of e)) 0 here)
    (all_fitting rest (All-tail (λ entry. key_of entry < 2 ^ 56) e rest fits))

-- ---- without the number

within_chunk : (chunk key : ℕ) → key < 2 ^ 56 → (chunk * 2 ^ 56 + key) % 2 ^ 56 ≡ key
within_chunk chunk key fits = omega (arith, fits)

name_back : (chunk : ℕ) (e : Entry) → key_of e < 2 ^ 56
    → renamed key_within (renamed (λ key. with_chunk key chunk) e) ≡ e
name_back chunk (Insert pass key value) fits = ap (λ k. Insert pass k value) (within_chunk chunk key fits)
name_back chunk (Got pass key value) fits = ap (λ k. Got pass k value) (within_chunk chunk key fits)
name_back chunk (Gone pass key) fits = ap (λ k. Gone pass k) (within_chunk chunk key fits)
name_back chunk (Crowded pass key) fits = ap (λ k. Crowded pass k) (within_chunk chunk key fits)
name_back chunk (Removed pass key) fits = ap (λ k. Removed pass k) (within_chunk chunk key fits)
name_back chunk (Released pass key) fits = ap (λ k. Released pass k) (within_chunk chunk key fits)
name_back chunk (Seen pass key value) fits = ap (λ k. Seen pass k value) (within_chunk chunk key fits)

names_back : (chunk : ℕ) (history : List Entry) → KeysFit history
    → map (renamed key_within) (of_chunk chunk history) ≡ history
names_back chunk [] fits = refl
names_back chunk (e ∷ rest) fits =
    let here = name_back chunk e (All-head (λ entry. key_of entry < 2 ^ 56) e rest fits) in
    let later = names_back chunk rest (All-tail (λ entry. key_of entry < 2 ^ 56) e rest fits) in
    rw (here, later) refl

pub one_history_of_chunks : OneHistoryOfChunks
one_history_of_chunks passes guard_max count histories legal =
    let own = λ (chunk : ℕ). fitting (histories chunk) in
    let one = one_history_of_all passes guard_max chunk_of count (λ chunk. of_chunk chunk (own chunk))
    (λ chunk lt. (
      is_within chunk (own chunk) (fitting_fits (histories chunk)),
      (keys_may_be_renamed passes guard_max (λ key. with_chunk key chunk) (one_to_one chunk) (own chunk)).0
          ((groups_are_legal passes guard_max chunk_of (histories chunk)).0 (legal chunk lt) 0),
    )) in (
      one.0,
      one.1,
      λ chunk lt. (
        one.2 chunk lt,
        ap (λ l. map (renamed key_within) l) (one.2 chunk lt)
            ∙ names_back chunk (own chunk) (fitting_fits (histories chunk)),
        all_fitting (histories chunk),
      ),
    )
