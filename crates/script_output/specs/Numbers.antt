-- Words as lines write them.
use Rattle.std.specs.Prelude.{ℕ, List, ◌++◌, codes, decimal, length}
use Rattle.std.specs.List.{flat_map}

-- each word after one space
abbrev pub words_text : List ℕ → List ℕ
words_text words = flat_map (λ word. codes " " ++ decimal word) words

-- a value: its length, and then its words
abbrev pub value_text : List ℕ → List ℕ
value_text words = decimal (length words) ++ words_text words
