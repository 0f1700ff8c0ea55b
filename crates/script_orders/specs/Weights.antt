-- Counts with weights, and lists that go together.
use Rattle.std.specs.Prelude.{ℕ, ◌+◌, ◌*◌, ◌-◌, ◌^◌, List, [], ◌∷◌, min}

-- a count of orders stops at the greatest number of 128 bits
abbrev pub capped : ℕ → ℕ
capped n = min n (2 ^ 128 - 1)

-- the sum of the counts, each times the weight of its place
unfoldable pub weigh : List ℕ → (weight : ℕ → ℕ) → ℕ
weigh [] w = 0
weigh (c ∷ cs) w = c * w 0 + weigh cs (λ place. w (place + 1))

-- the lists are as long, and what is at the same place is related
unfoldable pub Pairs : {A B : Type 0} → (A → B → Type 0) → List A → List B → Type 0
Pairs R [] [] = Unit {0}
Pairs R [] (y ∷ ys) = ⊥
Pairs R (x ∷ xs) [] = ⊥
Pairs R (x ∷ xs) (y ∷ ys) = R x y × Pairs R xs ys
