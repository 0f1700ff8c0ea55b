-- The values that are stored: each of their words shows which value it belongs to.
use Rattle.std.specs.Prelude.{◌≡◌, ℕ, ◌+◌, ◌*◌, ◌%◌, ◌^◌, ◌<◌, ◌==◌, if◌then◌else◌, List, length, slice_index}
use Rattle.std.specs.Int.{w64, rotate_left}

-- the word behind the first one at this place, mixed of the serial number and the place
unfoldable pub mixed_word : ℕ → ℕ → ℕ
mixed_word serial place = rotate_left w64 ((serial + place) % 2 ^ 64 * 0x9e37_79b9_7f4a_7c15 % 2 ^ 64) 29

-- the word at a place of the value with this serial number: the first is that number
abbrev pub pattern_word : ℕ → ℕ → ℕ
pattern_word serial place = if place == 0 then serial else mixed_word serial place

-- the words are those of the value with this serial number
abbrev pub IsPatternOf : ℕ → List ℕ → Type 0
IsPatternOf serial words = (place : ℕ) → place < length words → slice_index words place ≡ pattern_word serial place

-- the words all belong to one value
abbrev pub IsPattern : List ℕ → Type 0
IsPattern words = (serial : ℕ) × IsPatternOf serial words
