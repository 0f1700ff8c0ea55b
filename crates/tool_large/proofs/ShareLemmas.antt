-- The sum of all shares.
use Rattle.std.proofs.Common.{◌≡◌, ◌+◌, ℕ, arith}
use Rattle.tool_large.specs.Shares.{share}

-- the sum of the four shares is the whole
pub shares_all : (c : ℕ) → share c 0 + share c 1 + share c 2 + share c 3 ≡ c
shares_all c = omega arith
