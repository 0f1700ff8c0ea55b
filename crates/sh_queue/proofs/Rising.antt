-- Rising numbers still rise once one was taken out or higher ones were added, and the first is the lowest.
use Rattle.std.proofs.Common.{◌≡◌, ◌≢◌, ℕ, zero, suc, ◌<◌, ◌≤◌, ⊎_elim, true, false, cond, ◌==◌, List, [], ◌∷◌, ◌++◌}
use Rattle.std.proofs.Common.{arith, Some}
use Rattle.std.specs.Prelude.{slice_get}
use Rattle.std.proofs.lemmas.Bool.{cases_eq, false≢true}
use Rattle.sh_lists.specs.Numbers.{upward}
use Rattle.sh_queue.specs.Numbers.{has_number, without_number, RisesFrom}
use Rattle.sh_queue.proofs.Numbers.{has_number-here, has_number-there, has_number-rest}

RisesFrom-lower : (low low' : ℕ) (xs : List ℕ) → low' ≤ low → RisesFrom low xs → RisesFrom low' xs
RisesFrom-lower low low' [] less rises = tt
RisesFrom-lower low low' (x ∷ xs) less rises = (omega (arith, rises.0), rises.1)

pub RisesFrom-without : (low k : ℕ) (xs : List ℕ) → RisesFrom low xs → RisesFrom low (without_number k xs)
RisesFrom-without low k [] rises = tt
RisesFrom-without low k (x ∷ xs) rises =
    let less : low ≤ suc x = omega (arith, rises.0) in
    elim (x == k) as (λ b. RisesFrom low (cond b xs (x ∷ without_number k xs))) [
      | true ↦ RisesFrom-lower (suc x) low xs less rises.1
      | false ↦ (rises.0, RisesFrom-without (suc x) k xs rises.1)
    ]

RisesFrom-upward : (low i n : ℕ) → low ≤ i → RisesFrom low (upward i n)
RisesFrom-upward low i zero less = tt
RisesFrom-upward low i (suc n) less = (less, RisesFrom-upward (suc i) (suc i) n (omega arith))

pub RisesFrom-more
    : (low i n : ℕ) (xs : List ℕ)
    → low ≤ i → RisesFrom low xs → ((k : ℕ) → has_number k xs ≡ true → k < i) → RisesFrom low (xs ++ upward i n)
RisesFrom-more low i n [] less rises below = RisesFrom-upward low i n less
RisesFrom-more low i n (x ∷ xs) less rises below =
    let here : x < i = below x (has_number-here x xs) in (
      rises.0,
      RisesFrom-more (suc x) i n xs (omega (arith, here)) rises.1
          (λ k there. below k (has_number-there k x xs there)),
    )

lowest_from : (low k : ℕ) (xs : List ℕ) → RisesFrom low xs → has_number k xs ≡ true → low ≤ k
lowest_from low k [] rises here = absurd (false≢true here)
lowest_from low k (x ∷ xs) rises here = ⊎_elim
    (λ (is : x ≡ k). omega (arith, rises.0))
    (λ (other : x ≢ k). omega (arith, rises.0, lowest_from (suc x) k xs rises.1 (has_number-rest k x xs other here)))
    (cases_eq x k)

-- the first of rising numbers is the lowest
pub lowest : (first k low : ℕ) (xs : List ℕ) → RisesFrom low xs → slice_get xs 0 ≡ Some first → has_number k xs ≡ true
    → first ≤ k
lowest first k low [] rises is here = absurd (false≢true here)
lowest first k low (x ∷ xs) rises is here =
    let same : x ≡ first = cc in
    ⊎_elim
    (λ (at : x ≡ k). omega arith)
    (λ (other : x ≢ k). omega (arith, lowest_from (suc x) k xs rises.1 (has_number-rest k x xs other here)))
    (cases_eq x k)
