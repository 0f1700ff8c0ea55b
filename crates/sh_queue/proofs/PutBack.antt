-- The numbers of a list once one was taken out and put in again, in front or behind.
use Rattle.std.proofs.Common.{◌≡◌, ◌≢◌, ℕ, ◌<◌, ◌⊎◌, ⊎_elim, inl, inr, true, false, ◌||◌, ◌==◌, List, [], ◌∷◌, ◌++◌}
use Rattle.std.proofs.Common.{sym, ap, ◌∙◌, subst, arith}
use Rattle.std.proofs.lemmas.Bool.{cases_eq, or_cases, false≢true}
use Rattle.sh_queue.specs.Numbers.{has_number, without_number}
use Rattle.sh_queue.proofs.Numbers.{has_number-append, Misses-from_has}
use Rattle.sh_queue.proofs.Without.{without_number-same, without_number-missing}
use Rattle.sh_queue.proofs.Times.{times, times-some, has_number-from_times, hasnt-from_times, times-without_other}
use Rattle.sh_queue.proofs.Times.{times-without_same}

-- a number of the list without p was there before
pub has_number-from_without : (r p : ℕ) (xs : List ℕ) → has_number r (without_number p xs) ≡ true → has_number r xs
    ≡ true
has_number-from_without r p xs here = has_number-from_times r xs (⊎_elim
    (λ (is : p ≡ r).
    let some : 0 < times p (without_number p xs) = times-some p (without_number p xs)
    (subst (λ z. has_number z (without_number p xs) ≡ true) (sym is) here) in
    let less = times-without_same p xs in
    subst (λ z. 0 < times z xs) is (omega arith))
    (λ (other : p ≢ r).
    let some = times-some r (without_number p xs) here in let same = times-without_other r p xs other in omega arith)
    (cases_eq p r))

-- a number of a list of one number is that number
pub has_number-only : (r p : ℕ) → has_number r (p ∷ []) ≡ true → r ≡ p
has_number-only r p here = ⊎_elim
    (λ (is : p ≡ r). sym is)
    (λ (other : p ≢ r). absurd (false≢true (sym (hasnt-from_times r (p ∷ []) (times-other p r other)) ∙ here)))
    (cases_eq p r)
  where
    times-other : (p r : ℕ) → p ≢ r → times r (p ∷ []) ≡ 0
    times-other p r other = sym (times-without_other r p (p ∷ []) other) ∙ ap (times r) (without_number-same p [])

-- p was put in front
pub has_number-in_front : (r p : ℕ) (xs : List ℕ) → has_number r (p ∷ without_number p xs) ≡ true
    → (has_number r xs ≡ true) ⊎ (r ≡ p)
has_number-in_front r p xs here = ⊎_elim
    (λ (h : (p == r) ≡ true). inr (has_number-only r p (ap (λ b. b || false) h)))
    (λ (h : has_number r (without_number p xs) ≡ true). inl (has_number-from_without r p xs h))
    (or_cases (p == r) (has_number r (without_number p xs)) here)

-- p was put behind
pub has_number-in_back : (r p : ℕ) (xs : List ℕ) → has_number r (without_number p xs ++ p ∷ []) ≡ true
    → (has_number r xs ≡ true) ⊎ (r ≡ p)
has_number-in_back r p xs here = ⊎_elim
    (λ (h : has_number r (without_number p xs) ≡ true). inl (has_number-from_without r p xs h))
    (λ (h : has_number r (p ∷ []) ≡ true). inr (has_number-only r p h))
    (or_cases (has_number r (without_number p xs)) (has_number r (p ∷ []))
    (sym (has_number-append r (without_number p xs) (p ∷ [])) ∙ here))

-- a list that does not have p is the same without it
pub without_number-hasnt : (p : ℕ) (xs : List ℕ) → has_number p xs ≡ false → without_number p xs ≡ xs
without_number-hasnt p xs none = without_number-missing p xs (Misses-from_has p xs none)
