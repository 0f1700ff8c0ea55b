-- The list of words as a heap opens.
use Rattle.std.specs.Prelude.{ℕ, zero, suc, ◌*◌, ◌%◌, ◌^◌, nat_lt, nat_le, cond, ◌&&◌, List, [], ◌∷◌, ◌++◌}
use Rattle.sh_shape.specs.Places.{first_state, first_link, page_words}

-- the state words of each page say generation 1, empty; each other word is 0
abbrev pub opening_word : (pages number : ℕ) → ℕ
opening_word pages number = cond (nat_lt number (page_words * pages) &&
    (nat_le first_state (number % page_words) && nat_lt (number % page_words) first_link)) (2 ^ 32) 0

-- the first `count` words
unfoldable pub opening_words : (pages count : ℕ) → List ℕ
opening_words pages zero = []
opening_words pages (suc n) = opening_words pages n ++ opening_word pages n ∷ []
