-- Keys of a layout: numbers that are packed from a place and a generation.
use Rattle.std.specs.Prelude.{◌≡◌, ℕ, ◌+◌, ◌*◌, ◌/◌, ◌%◌, ◌^◌, ◌<◌, ◌≤◌, ◌&&◌, nat_le, Option, Some, None}
use Rattle.std.specs.Prelude.{if◌then◌else◌}
use Rattle.sh_key.specs.declared.parts.Parts.{Parts}

-- how many bits a shard and a page have, the last generation of a slot, and how many holds a key may have
pub record Layout : Type 0 where
  pub shard_bits : ℕ
  pub page_bits : ℕ
  pub gen_max : ℕ
  pub guard_max : ℕ

-- keys fit 64 bits, and counts of holds with 64 passes on their way fit 30 bits
pub record IsLayout (layout : Layout) : Type 0 where
  pub few_bits : layout.shard_bits + layout.page_bits ≤ 26
  pub some_generation : 1 ≤ layout.gen_max
  pub generations_fit : layout.gen_max < 2 ^ 32
  pub some_guard : 1 ≤ layout.guard_max
  pub guards_fit : layout.guard_max + 64 < 2 ^ 30

-- these are the layout's numbers, which are within the limits
pub record HasNumbers (layout : Layout) (shard_bits page_bits gen_max guard_max : ℕ) : Type 0 where
  pub shard_bits_is : shard_bits ≡ layout.shard_bits
  pub page_bits_is : page_bits ≡ layout.page_bits
  pub gen_max_is : gen_max ≡ layout.gen_max
  pub guard_max_is : guard_max ≡ layout.guard_max
  pub lawful : IsLayout layout

-- each part is within the layout
pub record IsInRange (layout : Layout) (p : Parts) : Type 0 where
  pub some_generation : 1 ≤ p.generation
  pub generation_fits : p.generation ≤ layout.gen_max
  pub shard_fits : p.shard < 2 ^ layout.shard_bits
  pub page_fits : p.page < 2 ^ layout.page_bits
  pub slot_fits : p.slot < 64

-- the number whose digits are the parts
abbrev pub packed : Layout → Parts → ℕ
packed layout p =
    ((p.generation * 2 ^ layout.shard_bits + p.shard) * 2 ^ layout.page_bits + p.page) * 64 + p.slot

-- p is in range, and k is its key
pub record IsKeyOf (layout : Layout) (p : Parts) (k : ℕ) : Type 0 where
  pub in_range : IsInRange layout p
  pub is : packed layout p ≡ k

-- the digits of a number
abbrev pub digits_of : Layout → ℕ → Parts
digits_of layout k = record {
  generation = k / 64 / 2 ^ layout.page_bits / 2 ^ layout.shard_bits;
  shard = (k / 64 / 2 ^ layout.page_bits) % 2 ^ layout.shard_bits;
  page = (k / 64) % 2 ^ layout.page_bits;
  slot = k % 64;
}

-- the parts, if the generation is one of the layout
abbrev pub if_good : Layout → Parts → Option Parts
if_good layout p = if nat_le 1 p.generation && nat_le p.generation layout.gen_max then Some p else None

-- the parts that a number is packed from, if it is a key
abbrev pub unpacked : Layout → ℕ → Option Parts
unpacked layout k = if_good layout (digits_of layout k)

-- the least key, and how many keys there are: the keys are the numbers from the least one on
abbrev pub first_key : Layout → ℕ
first_key layout = 2 ^ (layout.shard_bits + layout.page_bits + 6)

abbrev pub key_count : Layout → ℕ
key_count layout = layout.gen_max * first_key layout
