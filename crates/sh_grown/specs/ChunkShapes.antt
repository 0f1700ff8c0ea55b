-- The shape of each chunk, as a function of its number.
use Rattle.std.specs.Prelude.{◌≡◌, ℕ, ◌-◌, ◌/◌, ◌^◌, ◌==◌, min, if◌then◌else◌}
use Rattle.sh_shape.specs.Shape.{Numbers}

-- chunks 1 and 2 are the smallest; from there on every second chunk is twice as large, 15 times
abbrev pub doublings : ℕ → ℕ
doublings number = min ((number - 1) / 2) 15

-- the first 6 doublings are of the shards: a chunk has 2, 1, 1, 2, 2, 4, 4, .. and then 64 shards
abbrev pub shards_of : ℕ → ℕ
shards_of number = if number == 0 then 2 else 2 ^ min (doublings number) 6

-- the others are of the segments of each shard: 1 in the first 15 chunks, and 512 from chunk 31 on
abbrev pub segments_of : ℕ → ℕ
segments_of number = 2 ^ (doublings number - 6)

-- the shape of the chunk of this number
abbrev pub shape_of : (number passes : ℕ) → Numbers
shape_of number passes =
    record { shards = shards_of number; segments = segments_of number; passes = passes }

-- a heap that was found has the shape that is wanted
pub record IsShaped (found wanted : Numbers) : Type 0 where
  pub shards : found.shards ≡ wanted.shards
  pub segments : found.segments ≡ wanted.segments
  pub passes : found.passes ≡ wanted.passes
