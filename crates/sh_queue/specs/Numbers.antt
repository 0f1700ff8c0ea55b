-- Lists of numbers: which numbers they have, and what taking numbers out and putting numbers in does.
use Rattle.std.specs.Prelude.{ℕ, ◌==◌, ◌≤◌, suc, Bool, false, cond, ◌||◌, List, [], ◌∷◌, ◌++◌, get_or}

-- whether k is one of the numbers
abbrev pub has_number : ℕ → List ℕ → Bool
has_number k [] = false
has_number k (x ∷ xs) = (x == k) || has_number k xs

-- the numbers without the first that is k
abbrev pub without_number : ℕ → List ℕ → List ℕ
without_number k [] = []
without_number k (x ∷ xs) = cond (x == k) xs (x ∷ without_number k xs)

-- x is put behind the first s
abbrev pub put_after : ℕ → ℕ → List ℕ → List ℕ
put_after s x [] = []
put_after s x (y ∷ ys) = y ∷ cond (y == s) (x ∷ ys) (put_after s x ys)

-- the numbers of `more` are put ahead of the first m
abbrev pub put_before : ℕ → List ℕ → List ℕ → List ℕ
put_before m more [] = []
put_before m more (y ∷ ys) = cond (y == m) (more ++ y ∷ ys) (y ∷ put_before m more ys)

-- the number behind the first s, or 0 if there is none
abbrev pub following : ℕ → List ℕ → ℕ
following s [] = 0
following s (x ∷ xs) = cond (x == s) (get_or xs 0 0) (following s xs)

-- the number ahead of the first m, if a is ahead of the list
abbrev pub preceding_from : ℕ → ℕ → List ℕ → ℕ
preceding_from a m [] = a
preceding_from a m (x ∷ xs) = cond (x == m) a (preceding_from x m xs)

-- the number ahead of the first m, or 0 if there is none
abbrev pub preceding : ℕ → List ℕ → ℕ
preceding m xs = preceding_from 0 m xs

-- each number is above the one ahead of it, and none is below `low`
abbrev pub RisesFrom : ℕ → List ℕ → Type 0
RisesFrom low [] = Unit {0}
RisesFrom low (x ∷ xs) = (low ≤ x) × RisesFrom (suc x) xs
