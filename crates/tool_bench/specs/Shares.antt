-- The shares of a whole.
use Rattle.std.specs.Prelude.{ℕ, zero, suc, ◌+◌, ◌/◌, ◌%◌, nat_lt, if◌then◌else◌}

-- the share of the part with this number: the first `whole % parts` parts have one more each
abbrev pub share_of : (whole parts number : ℕ) → ℕ
share_of whole parts number = whole / parts + (if nat_lt number (whole % parts) then 1 else 0)

-- the sum of the shares of the first `count` parts
abbrev pub shares : (whole parts count : ℕ) → ℕ
shares whole parts zero = 0
shares whole parts (suc count) = shares whole parts count + share_of whole parts count
