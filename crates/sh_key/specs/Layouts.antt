-- The layouts by name, each by its four numbers, which are within the limits.
use Rattle.std.proofs.Common.{arith, lit<, refl}
use Rattle.sh_key.specs.Layout.{Layout, HasNumbers}

-- small enough to see each limit
abbrev pub tiny : Layout
tiny = record { shard_bits = 2; page_bits = 4; gen_max = 3; guard_max = 4 }

pub tiny_numbers : HasNumbers tiny 2 4 3 4
tiny_numbers = record {
  shard_bits_is = refl;
  page_bits_is = refl;
  gen_max_is = refl;
  guard_max_is = refl;
  lawful = record {
    few_bits = omega arith;
    some_generation = omega arith;
    generations_fit = lit< tt;
    some_guard = omega arith;
    guards_fit = lit< tt;
  };
}

-- for large heaps
abbrev pub wide : Layout
wide = record { shard_bits = 8; page_bits = 10; gen_max = 4294967295; guard_max = 1048576 }

pub wide_numbers : HasNumbers wide 8 10 4294967295 1048576
wide_numbers = record {
  shard_bits_is = refl;
  page_bits_is = refl;
  gen_max_is = refl;
  guard_max_is = refl;
  lawful = record {
    few_bits = omega arith;
    some_generation = omega arith;
    generations_fit = lit< tt;
    some_guard = omega arith;
    guards_fit = lit< tt;
  };
}

-- whose keys leave the highest 12 bits zero
abbrev pub tagged : Layout
tagged = record { shard_bits = 6; page_bits = 8; gen_max = 4294967295; guard_max = 1048576 }

pub tagged_numbers : HasNumbers tagged 6 8 4294967295 1048576
tagged_numbers = record {
  shard_bits_is = refl;
  page_bits_is = refl;
  gen_max_is = refl;
  guard_max_is = refl;
  lawful = record {
    few_bits = omega arith;
    some_generation = omega arith;
    generations_fit = lit< tt;
    some_guard = omega arith;
    guards_fit = lit< tt;
  };
}

-- for the largest heaps: all bits of a key are used
abbrev pub deep : Layout
deep = record { shard_bits = 6; page_bits = 20; gen_max = 4294967295; guard_max = 1048576 }

pub deep_numbers : HasNumbers deep 6 20 4294967295 1048576
deep_numbers = record {
  shard_bits_is = refl;
  page_bits_is = refl;
  gen_max_is = refl;
  guard_max_is = refl;
  lawful = record {
    few_bits = omega arith;
    some_generation = omega arith;
    generations_fit = lit< tt;
    some_guard = omega arith;
    guards_fit = lit< tt;
  };
}
