-- The values that are stored.
use Rattle.std.specs.Prelude.{◌≡◌, ℕ, ◌+◌, ◌*◌, ◌%◌, ◌<◌, List, [], length, min, slice_index, slice_index_or}
use Rattle.tool_load.specs.declared.samples.Lengths.{Lengths}
use Rattle.tool_load.specs.declared.samples.Lengths.TheVariants.{Each, Mixed}

-- the number of words of the value at a place: that of each value, or from 1 to 16 in turn
abbrev pub length_at : Lengths → ℕ → ℕ
length_at (Each words) place = min words 16
length_at Mixed place = place % 16 + 1

-- the value at a place: its length is that of the place, and its words count up from `place % 16 * 16`
pub record IsSample (lengths : Lengths) (place : ℕ) (value : List ℕ) : Type 0 where
  pub length_is : length value ≡ length_at lengths place
  pub words_are : (k : ℕ) → k < length value → slice_index value k ≡ place % 16 * 16 + k

-- the sixteen values of these lengths, in order
abbrev pub AreSamples : Lengths → List (List ℕ) → Type 0
AreSamples lengths values = (k : ℕ) → k < 16 → IsSample lengths k (slice_index_or values k [])
