-- Pages that values fill.
use Rattle.std.proofs.Common.{◌≡◌, ap, sym, ℕ, zero, suc, ◌+◌, ◌-◌, ◌*◌, ◌/◌, ◌<◌, ◌≤◌, arith, refl}
use Rattle.std.specs.Int.{div_ceil}
use Rattle.std.proofs.lemmas.Nat.{div-add-mod'}
use Rattle.std.proofs.Math.Nat.{le-mul_of_pos_right}
use Rattle.tool_load.specs.Plans.{filled_up_to, filled_pages}

-- if the size of a part is positive, there are no more parts than things
pub ceil_le : (n size : ℕ) → 0 < size → div_ceil n size ≤ n
ceil_le n size some =
    let whole = div-add-mod' n size in
    let more : n / size ≤ n / size * size = le-mul_of_pos_right (n / size) some in
    omega (arith, whole, more)

-- the pages of values of one more length
pub filled_more : (words each : ℕ) → 1 ≤ words
    → filled_up_to words each ≡ filled_up_to (words - 1) each + filled_pages words each
unfolding filled_up_to
filled_more zero each some = absurd (omega arith)
filled_more (suc words) each some =
    let less : suc words - 1 ≡ words = omega arith in
    ap (λ n. filled_up_to n each + filled_pages (suc words) each) (sym less)

pub filled_none : (each : ℕ) → filled_up_to 0 each ≡ 0
unfolding filled_up_to
filled_none each = refl
