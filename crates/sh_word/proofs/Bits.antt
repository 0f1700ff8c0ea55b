-- What the code's operations on bits compute: packing by `<<` and `|`, and testing a bit by `&`.
use Rattle.std.proofs.Common.{◌≡◌, ℕ, ◌+◌, ◌*◌, ◌%◌, ◌^◌, ◌<◌, ◌≤◌, ◌==◌, not, ap, ◌∙◌, arith}
use Rattle.std.specs.Prelude.{bit_or, bit_and}
use Rattle.std.specs.Int.{bit_at}
use Rattle.std.proofs.lemmas.Nat.{or_shifted, pow_pos}
use Rattle.std.proofs.lemmas.Nat.Bits.{and_pow, bit_at-lt}
use Rattle.std.proofs.lemmas.Bool.Decides.{nat_tests}

-- Four fields side by side make their sum, each at its place.
pub or_four : (g m p c : ℕ) → g < 2 ^ 32 → m ≤ 1 → p ≤ 1 → c < 2 ^ 30 →
    bit_or (bit_or (bit_or (g * 2 ^ 32 % 2 ^ 64) (m * 2 ^ 31 % 2 ^ 64)) (p * 2 ^ 30 % 2 ^ 64)) c
    ≡ g * 2 ^ 32 + m * 2 ^ 31 + p * 2 ^ 30 + c
or_four g m p c g_fits m_fits p_fits c_fits =
    let g_kept : g * 2 ^ 32 % 2 ^ 64 ≡ g * 2 ^ 32 = omega arith in
    let m_kept : m * 2 ^ 31 % 2 ^ 64 ≡ m * 2 ^ 31 = omega arith in
    let p_kept : p * 2 ^ 30 % 2 ^ 64 ≡ p * 2 ^ 30 = omega arith in
    let first : bit_or (g * 2 ^ 32) (m * 2 ^ 31) ≡ (g * 2 + m) * 2 ^ 31 = or_shifted g 32 (m * 2 ^ 31) (omega arith)
    ∙ omega arith in
    let second : bit_or ((g * 2 + m) * 2 ^ 31) (p * 2 ^ 30) ≡ ((g * 2 + m) * 2 + p) * 2 ^ 30 = or_shifted (g * 2 + m) 31
    (p * 2 ^ 30) (omega arith) ∙ omega arith in
    rw (g_kept, m_kept, p_kept, first, second, or_shifted ((g * 2 + m) * 2 + p) 30 c c_fits) (omega arith)

-- A bit that `&` finds is 1.
pub and_test : (n k : ℕ) → not (bit_and n (2 ^ k) == 0) ≡ (bit_at n k == 1)
and_test n k =
    ap (λ (x : ℕ). not (x == 0)) (and_pow n k) ∙ go (bit_at n k) (2 ^ k) (bit_at-lt n k) (pow_pos k) where
      go : (b m : ℕ) → b < 2 → 0 < m → not (b * m == 0) ≡ (b == 1)
      go b m small above = grind (arith, nat_tests)
