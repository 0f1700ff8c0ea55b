-- The sum of the shares of a whole.
use Rattle.std.specs.Prelude.{nat_lt, if◌then◌else◌}
use Rattle.std.proofs.Common.{◌≡◌, ℕ, zero, suc, ◌+◌, ◌*◌, ◌/◌, ◌%◌, ◌<◌, min, arith}
use Rattle.std.proofs.lemmas.Nat.{div-add-mod', mod_below}
use Rattle.std.proofs.lemmas.Bool.Decides.{nat_tests}
use Rattle.tool_bench.specs.Shares.{shares}

-- the sum of the first `count` shares: `whole / parts` for each, and one more for each of the first `whole % parts`
pub shares_are : (whole parts count : ℕ) → shares whole parts count
    ≡ count * (whole / parts) + min count (whole % parts)
shares_are whole parts zero = omega arith
shares_are whole parts (suc count) =
    let before = shares_are whole parts count in
    let size = whole / parts in
    let rest = whole % parts in
    step size rest (shares whole parts count) before
  where
    step : (size rest sum : ℕ) → sum ≡ count * size + min count rest
        → sum + (size + (if nat_lt count rest then 1 else 0)) ≡ suc count * size + min (suc count) rest
    step size rest sum is = grind (arith, nat_tests)

-- the sum of all shares is the whole
pub shares_whole : (whole parts : ℕ) → 0 < parts → shares whole parts parts ≡ whole
shares_whole whole parts some =
    let below = mod_below whole parts some in
    let split = div-add-mod' whole parts in
    let all = shares_are whole parts parts in
    omega (arith, below, split, all)
