-- Keys with a tag.
use Rattle.std.proofs.Common.{◌≡◌, ◌≢◌, ℕ, ◌*◌, ◌/◌, ◌%◌, ◌^◌, ◌==◌, Bool, true, false, cond, Some, None, refl, ap}
use Rattle.std.proofs.Common.{arith, eqb-true, eq-eqb, ne_eqb}
use Rattle.sh_key.specs.Tag.{IsTaggedKey}
use Rattle.script_output.specs.Keys.{key_shown}

above : (number t k : ℕ) → IsTaggedKey number t k → number / 2 ^ 52 ≡ t * 16
above number t k x = omega (arith, x.is, x.key_fits)

below : (number t k : ℕ) → IsTaggedKey number t k → number % 2 ^ 52 ≡ k
below number t k x = omega (arith, x.is, x.key_fits)

same_tag : (t tag : ℕ) → (t * 16 == tag * 16) ≡ (t == tag)
same_tag t tag = by (t == tag) refl
  where
    by : (b : Bool) → (t == tag) ≡ b → (t * 16 == tag * 16) ≡ b
    by true e = let same : t ≡ tag = eqb-true t tag e in eq-eqb _ _ (ap (λ n. n * 16) same)
    by false e = ne_eqb _ _ (λ same. let one : t ≡ tag = omega (arith, same) in not_both _ (eq-eqb t tag one) e)
      where
        not_both : (b : Bool) → b ≡ true → b ≡ false → ⊥
        not_both b p q = cc

-- a number with a tag, under the same tag or another
pub untags : (number t k tag : ℕ) → IsTaggedKey number t k → key_shown (Some tag) number ≡ cond (t == tag) (Some k) None
untags number t k tag x = rw (above number t k x, below number t k x, same_tag t tag) refl

-- a number with other bits between them
pub untags_none : (number tag : ℕ) → (number / 2 ^ 52) % 16 ≢ 0 → key_shown (Some tag) number ≡ None
untags_none number tag h =
    let other : (number / 2 ^ 52 == tag * 16) ≡ false = ne_eqb _ _ (λ e. h (multiple (number / 2 ^ 52) e)) in
    rw other refl
  where
    multiple : (n : ℕ) → n ≡ tag * 16 → n % 16 ≡ 0
    multiple n e = omega (arith, e)
