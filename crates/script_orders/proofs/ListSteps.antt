-- One element of a list changed, or one more.
use Rattle.std.proofs.Common.{◌≡◌, ◌≢◌, ◌⊎◌, ℕ, zero, suc, List, [], ◌∷◌, ◌++◌, length, refl, ap, Some, None, slice_get}
use Rattle.std.proofs.Common.{inl, inr}
use Rattle.std.specs.Prelude.{slice_set}

pub get_set_same : {A : Type 0} (xs : List A) (i : ℕ) (x y : A) → slice_get xs i ≡ Some x
    → slice_get (slice_set xs i y) i ≡ Some y
get_set_same [] i x y h = let z : None ≡ Some x = h in cc
get_set_same (z ∷ xs) zero x y h = refl
get_set_same (z ∷ xs) (suc i) x y h = get_set_same xs i x y h

pub get_set_other : {A : Type 0} (xs : List A) (i j : ℕ) (y : A) → j ≢ i → slice_get (slice_set xs i y) j
    ≡ slice_get xs j
get_set_other [] i j y ne = refl
get_set_other (z ∷ xs) zero zero y ne = absurd (ne refl)
get_set_other (z ∷ xs) zero (suc j) y ne = refl
get_set_other (z ∷ xs) (suc i) zero y ne = refl
get_set_other (z ∷ xs) (suc i) (suc j) y ne = get_set_other xs i j y (λ h. ne (ap (λ (n : ℕ). suc n) h))

pub get_push : {A : Type 0} (xs : List A) (i : ℕ) (x y : A) → slice_get xs i ≡ Some x
    → slice_get (xs ++ y ∷ []) i ≡ Some x
get_push [] i x y h = let z : None ≡ Some x = h in cc
get_push (z ∷ xs) zero x y h = h
get_push (z ∷ xs) (suc i) x y h = get_push xs i x y h

-- an element of a list with one more
pub get_pushed : {A : Type 0} (xs : List A) (i : ℕ) (x y : A) → slice_get (xs ++ y ∷ []) i ≡ Some x
    → (slice_get xs i ≡ Some x) ⊎ ((i ≡ length xs) × (y ≡ x))
get_pushed [] zero x y h = inr (refl, let z : Some y ≡ Some x = h in cc)
get_pushed [] (suc i) x y h = let z : None ≡ Some x = h in cc
get_pushed (z ∷ xs) zero x y h = inl h
get_pushed (z ∷ xs) (suc i) x y h = elim (get_pushed xs i x y h) [
  | inl at ↦ inl at
  | inr (e, is) ↦ inr (ap (λ (n : ℕ). suc n) e, is)
]
