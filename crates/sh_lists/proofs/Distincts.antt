-- Numbers that differ, and numbers below a bound.
use Rattle.std.proofs.Common.{◌≡◌, ◌≢◌, ℕ, zero, suc, ◌+◌, ◌<◌, ◌≤◌, ◌⊎◌, ⊎_elim, inl, inr, Bool, true, false, eqb}
use Rattle.std.proofs.Common.{◌||◌, List, [], ◌∷◌, ◌++◌, length, refl, ap, ◌∙◌, sym, subst, arith, ne_eqb, eqb→eq}
use Rattle.std.proofs.lemmas.Bool.{false≢true}
use Rattle.std.proofs.lemmas.Map.Steps.{length-le_from_distinct_below}
use Rattle.std.specs.List.{IsDistinct, AllByRecursion, list_any}
use lib.Dec.{T}
use Rattle.sh_lists.specs.Numbers.{Misses, Distinct, AllBelow, upward}

pub Misses-left : (x : ℕ) (a b : List ℕ) → Misses x (a ++ b) → Misses x a
Misses-left x [] b misses = tt
Misses-left x (y ∷ a) b misses = (misses.0, Misses-left x a b misses.1)

pub Misses-right : (x : ℕ) (a b : List ℕ) → Misses x (a ++ b) → Misses x b
Misses-right x [] b misses = misses
Misses-right x (y ∷ a) b misses = Misses-right x a b misses.1

pub Distinct-left : (a b : List ℕ) → Distinct (a ++ b) → Distinct a
Distinct-left [] b distinct = tt
Distinct-left (y ∷ a) b distinct = (Misses-left y a b distinct.0, Distinct-left a b distinct.1)

-- ---- one more number, anywhere

Misses-insert : (z x : ℕ) (a b : List ℕ) → Misses z (a ++ b) → z ≢ x → Misses z (a ++ x ∷ b)
Misses-insert z x [] b misses other = (other, misses)
Misses-insert z x (y ∷ a) b misses other = (misses.0, Misses-insert z x a b misses.1 other)

pub Distinct-insert : (x : ℕ) (a b : List ℕ) → Distinct (a ++ b) → Misses x (a ++ b) → Distinct (a ++ x ∷ b)
Distinct-insert x [] b distinct misses = (misses, distinct)
Distinct-insert x (y ∷ a) b distinct misses = (
  Misses-insert y x a b distinct.0 (λ same. misses.0 (sym same)),
  Distinct-insert x a b distinct.1 misses.1,
)

pub AllBelow-insert : (n x : ℕ) (a b : List ℕ) → AllBelow n (a ++ b) → x < n → AllBelow n (a ++ x ∷ b)
AllBelow-insert n x [] b below here = (here, below)
AllBelow-insert n x (y ∷ a) b below here = (below.0, AllBelow-insert n x a b below.1 here)

-- ---- there are at most n different numbers below n

differs_from_all : (x : ℕ) (xs : List ℕ) → Misses x xs → AllByRecursion (λ y. eqb x y ≡ false) xs
differs_from_all x [] misses = tt
differs_from_all x (y ∷ ys) misses = (ne_eqb x y misses.0, differs_from_all x ys misses.1)

IsDistinct-from_Distinct : (xs : List ℕ) → Distinct xs → IsDistinct eqb xs
unfolding IsDistinct
IsDistinct-from_Distinct [] distinct = tt
IsDistinct-from_Distinct (x ∷ xs) distinct = (
  differs_from_all x xs distinct.0,
  IsDistinct-from_Distinct xs distinct.1,
)

below_by_head
    : (n q x : ℕ) (xs : List ℕ) (same : Bool)
    → eqb q x ≡ same → x < n → (list_any (eqb q) xs ≡ true → q < n) → same || list_any (eqb q) xs ≡ true → q < n
below_by_head n q x xs true is below rest found = subst (λ k. k < n) (sym (eqb→eq q x (subst T (sym is) tt))) below
below_by_head n q x xs false is below rest found = rest found

below_from_any : (n : ℕ) (xs : List ℕ) → AllBelow n xs → (q : ℕ) → list_any (eqb q) xs ≡ true → q < n
below_from_any n [] below q found = absurd (false≢true found)
below_from_any n (x ∷ xs) below q found =
    below_by_head n q x xs (eqb q x) refl below.0 (below_from_any n xs below.1 q) found

pub length-le_from_Distinct : (n : ℕ) (xs : List ℕ) → Distinct xs → AllBelow n xs → length xs ≤ n
length-le_from_Distinct n xs distinct below =
    length-le_from_distinct_below xs n (IsDistinct-from_Distinct xs distinct) (below_from_any n xs below)

-- ---- the numbers from i on

pub upward-push : (i n : ℕ) → upward i (suc n) ≡ upward i n ++ (i + n) ∷ []
upward-push i zero = ap (λ k. k ∷ []) (omega arith)
upward-push i (suc n) =
    let is : suc i + n ≡ i + suc n = omega arith in
    ap (λ zs. i ∷ zs) (upward-push (suc i) n ∙ ap (λ k. upward (suc i) n ++ k ∷ []) is)

pub Misses-upward : (x i n : ℕ) → (x < i) ⊎ (i + n ≤ x) → Misses x (upward i n)
Misses-upward x i zero outside = tt
Misses-upward x i (suc n) outside = (
  (λ same. omega arith),
  Misses-upward x (suc i) n (⊎_elim
      (λ (below : x < i). let less : x < suc i = omega arith in inl less)
      (λ (above : i + suc n ≤ x). let more : suc i + n ≤ x = omega arith in inr more)
      outside),
)

pub Distinct-upward : (i n : ℕ) → Distinct (upward i n)
Distinct-upward i zero = tt
Distinct-upward i (suc n) = (
  let before : i < suc i = omega arith in Misses-upward i (suc i) n (inl before),
  Distinct-upward (suc i) n,
)

pub AllBelow-upward : (m i n : ℕ) → i + n ≤ m → AllBelow m (upward i n)
AllBelow-upward m i zero fits = tt
AllBelow-upward m i (suc n) fits = (omega arith, AllBelow-upward m (suc i) n (omega arith))
