-- The layout of a chunk's keys, and keys with the chunk's number above them.
use Rattle.std.proofs.Common.{arith, lit<, refl}
use Rattle.std.specs.Prelude.{◌≡◌, ℕ, ◌+◌, ◌*◌, ◌/◌, ◌%◌, ◌^◌, ◌<◌}
use Rattle.sh_key.specs.Layout.{Layout, HasNumbers}

-- whose keys leave the highest 8 bits zero
abbrev pub chunked : Layout
chunked = record { shard_bits = 6; page_bits = 12; gen_max = 4294967295; guard_max = 1048576 }

pub chunked_numbers : HasNumbers chunked 6 12 4294967295 1048576
chunked_numbers = record {
  shard_bits_is = refl;
  page_bits_is = refl;
  gen_max_is = refl;
  guard_max_is = refl;
  lawful = record {
    few_bits = omega arith;
    some_generation = omega arith;
    generations_fit = lit< tt;
    some_guard = omega arith;
    guards_fit = lit< tt;
  };
}

-- the key with the chunk's number at bits 56 to 63
abbrev pub with_chunk : (key chunk : ℕ) → ℕ
with_chunk key chunk = chunk * 2 ^ 56 + key

-- the chunk that a number names
abbrev pub chunk_of : ℕ → ℕ
chunk_of number = number / 2 ^ 56

-- the key in that chunk
abbrev pub key_within : ℕ → ℕ
key_within number = number % 2 ^ 56

-- the number is this key of this chunk
pub record IsKeyOfChunk (number chunk key : ℕ) : Type 0 where
  pub chunk_fits : chunk < 2 ^ 8
  pub key_fits : key < 2 ^ 56
  pub is : with_chunk key chunk ≡ number
