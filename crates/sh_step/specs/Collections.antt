-- Sums over lists, and what a list has.
use Rattle.std.specs.Prelude.{ℕ, ◌+◌, ◌==◌, Bool, true, false, cond, ◌&&◌, ◌||◌, List, [], ◌∷◌, Option, Some, None}

-- f of each item, added up
unfoldable pub total : {A : Type 0} → (A → ℕ) → List A → ℕ
total f [] = 0
total f (x ∷ xs) = f x + total f xs

-- 1 if the test holds, otherwise 0
abbrev pub if1 : Bool → ℕ
if1 b = cond b 1 0

-- the list without its first item that passes
unfoldable pub without : {A : Type 0} → (A → Bool) → List A → List A
without p [] = []
without p (x ∷ xs) = cond (p x) xs (x ∷ without p xs)

unfoldable pub has : {A : Type 0} → (A → Bool) → List A → Bool
has p [] = false
has p (x ∷ xs) = p x || has p xs

-- the list without all items that pass, and whether all pass
unfoldable pub off : {A : Type 0} → (A → Bool) → List A → List A
off p [] = []
off p (x ∷ xs) = cond (p x) (off p xs) (x ∷ off p xs)

unfoldable pub every : {A : Type 0} → (A → Bool) → List A → Bool
every p [] = true
every p (x ∷ xs) = p x && every p xs

-- the value noted for a number
unfoldable pub noted : ℕ → List (ℕ × ℕ) → Option ℕ
noted q [] = None
noted q (x ∷ xs) = cond (x.0 == q) (Some x.1) (noted q xs)
