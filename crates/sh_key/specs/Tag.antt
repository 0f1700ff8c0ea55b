-- Keys with 8 bits of the user's above them.
use Rattle.std.specs.Prelude.{◌≡◌, ℕ, ◌+◌, ◌*◌, ◌^◌, ◌<◌}

-- the key with the tag at bits 56 to 63
abbrev pub with_tag : (key tag : ℕ) → ℕ
with_tag key tag = tag * 2 ^ 56 + key

-- the number is this key with this tag, and bits 52 to 55 are zero
pub record IsTaggedKey (number tag key : ℕ) : Type 0 where
  pub tag_fits : tag < 2 ^ 8
  pub key_fits : key < 2 ^ 52
  pub is : with_tag key tag ≡ number
