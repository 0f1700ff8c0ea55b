-- The laws of packing: parts in range and keys are one to one, and the keys are consecutive numbers.
use Rattle.std.specs.Prelude.{◌≡◌, ℕ, ◌+◌, ◌^◌, ◌<◌, ◌≤◌, ◌↔◌, Some, IsSome}
use Rattle.sh_key.specs.declared.parts.Parts.{Parts}
use Rattle.sh_key.specs.Layout.{Layout, IsInRange, IsKeyOf, packed, unpacked, first_key, key_count}

-- the key of parts in range is unpacked to these parts
abbrev pub KeysUnpack : Layout → Type 0
KeysUnpack layout = (p : Parts) → IsInRange layout p → unpacked layout (packed layout p) ≡ Some p

-- a number is unpacked only to parts in range whose key it is
abbrev pub OnlyKeysUnpack : Layout → Type 0
OnlyKeysUnpack layout = (k : ℕ) (p : Parts) → unpacked layout k ≡ Some p → IsKeyOf layout p k

-- a key fits 64 bits
abbrev pub KeysFit : Layout → Type 0
KeysFit layout = (p : Parts) → IsInRange layout p → packed layout p < 2 ^ 64

-- the keys are the numbers from the first key on, `key_count` of them
abbrev pub KeysAreConsecutive : Layout → Type 0
KeysAreConsecutive layout =
    (k : ℕ) → IsSome (unpacked layout k) ↔ ((first_key layout ≤ k) × (k < first_key layout + key_count layout))
