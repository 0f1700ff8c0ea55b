-- The numbers of a list, and those at its ends.
use Rattle.std.proofs.Common.{◌≡◌, ◌≢◌, ℕ, zero, suc, ◌+◌, ◌<◌, ◌≤◌, ◌⊎◌, ⊎_elim, Bool, true, false, ◌||◌, ◌==◌, List}
use Rattle.std.proofs.Common.{[], ◌∷◌, ◌++◌, sym, refl, ap, ◌∙◌, subst, arith, inl, inr, Option, Some, None, eq-eqb}
use Rattle.std.proofs.Common.{ne_eqb}
use Rattle.std.specs.Prelude.{slice_get}
use Rattle.std.specs.List.{last_or}
use Rattle.std.proofs.Math.Bool.{or_assoc, or-true}
use Rattle.std.proofs.lemmas.Bool.{cases_eq, false≢true}
use Rattle.sh_lists.specs.Numbers.{Misses, AllBelow, upward}
use Rattle.sh_queue.specs.Numbers.{has_number}

pub has_number-here : (k : ℕ) (ys : List ℕ) → has_number k (k ∷ ys) ≡ true
has_number-here k ys = ap (λ b. b || has_number k ys) (eq-eqb k k refl)

pub has_number-there : (k y : ℕ) (ys : List ℕ) → has_number k ys ≡ true → has_number k (y ∷ ys) ≡ true
has_number-there k y ys there = ap (λ b. (y == k) || b) there ∙ or-true (y == k)

-- the first number is another
pub has_number-else : (k y : ℕ) (ys : List ℕ) → y ≢ k → has_number k (y ∷ ys) ≡ has_number k ys
has_number-else k y ys other = ap (λ b. b || has_number k ys) (ne_eqb y k other)

pub has_number-rest : (k y : ℕ) (ys : List ℕ) → y ≢ k → has_number k (y ∷ ys) ≡ true → has_number k ys ≡ true
has_number-rest k y ys other here = sym (has_number-else k y ys other) ∙ here

-- a number of the list differs from a number that is not in the list
pub differs : (a k : ℕ) (xs : List ℕ) → Misses a xs → has_number k xs ≡ true → a ≢ k
differs a k [] misses here same = false≢true here
differs a k (y ∷ ys) misses here same = ⊎_elim
    (λ (is : y ≡ k). misses.0 (same ∙ sym is))
    (λ (other : y ≢ k). differs a k ys misses.1 (has_number-rest k y ys other here) same)
    (cases_eq y k)

pub has_number-from_Misses : (k : ℕ) (xs : List ℕ) → Misses k xs → has_number k xs ≡ false
has_number-from_Misses k [] misses = refl
has_number-from_Misses k (y ∷ ys) misses = has_number-else k y ys (λ same. misses.0 (sym same))
    ∙ has_number-from_Misses k ys misses.1

Misses-head
    : (k y : ℕ) (ys : List ℕ) (b : Bool)
    → (y == k) ≡ b → b || has_number k ys ≡ false → (has_number k ys ≡ false → Misses k ys) → (k ≢ y) × Misses k ys
Misses-head k y ys true is none rest = absurd (false≢true (sym none))
Misses-head k y ys false is none rest = ((λ same. false≢true (sym is ∙ eq-eqb y k (sym same))), rest none)

pub Misses-from_has : (k : ℕ) (xs : List ℕ) → has_number k xs ≡ false → Misses k xs
Misses-from_has k [] none = tt
Misses-from_has k (y ∷ ys) none = Misses-head k y ys (y == k) refl none (Misses-from_has k ys)

pub below_from_has : (n k : ℕ) (xs : List ℕ) → AllBelow n xs → has_number k xs ≡ true → k < n
below_from_has n k [] small here = absurd (false≢true here)
below_from_has n k (y ∷ ys) small here = ⊎_elim
    (λ (is : y ≡ k). subst (λ z. z < n) is small.0)
    (λ (other : y ≢ k). below_from_has n k ys small.1 (has_number-rest k y ys other here))
    (cases_eq y k)

pub has_number-upward : (k i n : ℕ) → i ≤ k → k < i + n → has_number k (upward i n) ≡ true
has_number-upward k i zero from upto = absurd (omega arith)
has_number-upward k i (suc n) from upto = ⊎_elim
    (λ (is : i ≡ k). subst (λ z. has_number k (z ∷ upward (suc i) n) ≡ true) (sym is)
    (has_number-here k (upward (suc i) n)))
    (λ (other : i ≢ k). has_number-there k i (upward (suc i) n)
    (has_number-upward k (suc i) n (omega arith) (omega arith)))
    (cases_eq i k)

pub has_number-append : (k : ℕ) (xs ys : List ℕ) → has_number k (xs ++ ys) ≡ has_number k xs || has_number k ys
has_number-append k [] ys = refl
has_number-append k (x ∷ xs) ys = ap (λ b. (x == k) || b) (has_number-append k xs ys)
    ∙ sym (or_assoc (x == k) (has_number k xs) (has_number k ys))

-- ---- the ends of a list

pub has_number-first : (k : ℕ) (xs : List ℕ) → slice_get xs 0 ≡ Some k → has_number k xs ≡ true
has_number-first k [] is = cc
has_number-first k (x ∷ xs) is =
    let same : x ≡ k = cc in
    subst (λ z. has_number z (x ∷ xs) ≡ true) same (has_number-here x xs)

has_number-last_from : (k : ℕ) (o : Option ℕ) (xs : List ℕ) → last_or o xs ≡ Some k → (o ≡ Some k)
    ⊎ (has_number k xs ≡ true)
has_number-last_from k o [] is = inl is
has_number-last_from k o (x ∷ xs) is = ⊎_elim
    (λ (here : Some x ≡ Some k).
    let same : x ≡ k = cc in
    let at : has_number k (x ∷ xs) ≡ true = subst (λ z. has_number z (x ∷ xs) ≡ true) same (has_number-here x xs) in
    inr at)
    (λ (there : has_number k xs ≡ true). let at : has_number k (x ∷ xs) ≡ true = has_number-there k x xs there
    in inr at)
    (has_number-last_from k (Some x) xs is)

pub has_number-last : (k : ℕ) (xs : List ℕ) → last_or None xs ≡ Some k → has_number k xs ≡ true
has_number-last k xs is = ⊎_elim
    (λ (none : None ≡ Some k). let absent : has_number k xs ≡ true = cc in absent)
    (λ (here : has_number k xs ≡ true). here)
    (has_number-last_from k None xs is)
