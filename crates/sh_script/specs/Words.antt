-- Words, numbers and names of a line, as they are read.
use Rattle.std.specs.Prelude.{ℕ, ◌+◌, ◌-◌, ◌*◌, ◌^◌, ◌==◌, ◌&&◌, ◌||◌, Bool, false, not, nat_lt, nat_le, List, [], ◌∷◌}
use Rattle.std.specs.Prelude.{length, Option, Some, None, option_map, take, drop, filter, if◌then◌else◌}
use Rattle.std.specs.List.{slice_split, list_all, position}

abbrev pub Word : Type 0
Word = List ℕ

-- a newline or a space
abbrev pub is_newline : ℕ → Bool
is_newline b = b == 10

abbrev pub is_space : ℕ → Bool
is_space b = b == 32

abbrev pub is_digit : ℕ → Bool
is_digit b = nat_le 48 b && nat_le b 57

abbrev pub is_small_letter : ℕ → Bool
is_small_letter b = nat_le 97 b && nat_le b 122

-- the runs of bytes other than space
abbrev pub words_in : List ℕ → List Word
words_in line = filter (λ w. not (length w == 0)) (slice_split is_space line)

-- the parts before and after the first dot
abbrev pub is_dot : ℕ → Bool
is_dot b = b == 46

abbrev pub split_dot : Word → Option (Word × Word)
split_dot word = option_map (λ i. (take i word, drop (i + 1) word)) (position is_dot word)

-- the number that these digits complete, after n from the digits before them
abbrev pub number_from : ℕ → Word → Option ℕ
number_from n [] = Some n
number_from n (b ∷ bs) = if is_digit b && nat_lt (n * 10 + (b - 48)) (2 ^ 64) then number_from (n * 10 + (b - 48)) bs
    else None

-- `0`, or digits that don't begin with 0, below 2^64
abbrev pub number_of : Word → Option ℕ
number_of [] = None
number_of (b ∷ bs) = if b == 48 && not (length bs == 0) then None else number_from 0 (b ∷ bs)

-- a letter a to z, then at most 31 of a to z, 0 to 9 and _
abbrev pub is_name_byte : ℕ → Bool
is_name_byte b = is_small_letter b || (is_digit b || b == 95)

abbrev pub is_name : Word → Bool
is_name [] = false
is_name (b ∷ bs) = is_small_letter b && (nat_le (length bs) 31 && list_all is_name_byte bs)
