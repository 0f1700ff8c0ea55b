-- The shares of four threads, and their sum.
use Rattle.std.specs.Prelude.{ℕ, ◌+◌, ◌-◌, ◌/◌, vec_len}
use Rattle.tool_large.specs.declared.crew.Four.{Four}
use Rattle.tool_large.specs.declared.filling.Filled.{Filled}

-- the share of a thread, whose number is from 0 to 3
abbrev pub share : (count number : ℕ) → ℕ
share count number = (count + 3 - number) / 4

-- the number of keys that all four have
abbrev pub keys_of : Four Filled → ℕ
keys_of f = vec_len f.one.keys + vec_len f.two.keys + vec_len f.three.keys + vec_len f.four.keys
