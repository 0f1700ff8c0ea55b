-- A hold at the front of the list is held, and without it the other holds are left.
use Rattle.std.proofs.Common.{◌≡◌, refl, ap, ℕ, ◌==◌, ◌||◌, true, cond, List, ◌∷◌, eq-eqb}
use Rattle.sh_step.specs.Collections.{has, without}

pub has_first : (k : ℕ) (ks : List ℕ) → has (λ n. n == k) (k ∷ ks) ≡ true
unfolding has
has_first k ks = ap (λ b. b || has (λ n. n == k) ks) (eq-eqb k k refl)

pub without_first : (k : ℕ) (ks : List ℕ) → without (λ n. n == k) (k ∷ ks) ≡ ks
unfolding without
without_first k ks = ap (λ b. cond b ks (k ∷ without (λ n. n == k) ks)) (eq-eqb k k refl)
