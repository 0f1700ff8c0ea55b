-- Counts by pass and key, after one of them was written.
use Rattle.std.proofs.Common.{◌≡◌, ℕ, ◌+◌, ◌-◌, Bool, true, false, cond, Option, refl, rules, arith}
use Rattle.std.specs.Prelude.{◌==◌, ◌&&◌}
use Rattle.std.specs.Option.{unwrap_or}
use Rattle.std.specs.Map.{count_at}
use Rattle.history_audit.specs.Held.{same_place, one_at}

pub are_same : (pass key p k : ℕ) → ((pass == p) && (key == k)) ≡ true → (pass ≡ p) × (key ≡ k)
are_same pass key p k e = search rules

module _ (f g : ℕ × ℕ → Option ℕ) (pass key : ℕ) (w : Option ℕ)
    (writes : (q : ℕ × ℕ) → g q ≡ cond (same_place (pass, key) q) w (f q)) where
  pub after_add : unwrap_or w 0 ≡ count_at f (pass, key) + 1 → (p k : ℕ)
      → count_at g (p, k) ≡ count_at f (p, k) + one_at pass key p k
  after_add more p k = rw (writes (p, k)) (go ((pass == p) && (key == k)) refl) where
    go : (b : Bool) → ((pass == p) && (key == k)) ≡ b
        → unwrap_or (cond b w (f (p, k))) 0 ≡ count_at f (p, k) + cond b 1 0
    go true is = let same = are_same pass key p k is in rw (← same.0, ← same.1) more
    go false is = omega arith

  pub after_take : unwrap_or w 0 ≡ count_at f (pass, key) - 1 → (p k : ℕ)
      → count_at g (p, k) ≡ count_at f (p, k) - one_at pass key p k
  after_take less p k = rw (writes (p, k)) (go ((pass == p) && (key == k)) refl) where
    go : (b : Bool) → ((pass == p) && (key == k)) ≡ b
        → unwrap_or (cond b w (f (p, k))) 0 ≡ count_at f (p, k) - cond b 1 0
    go true is = let same = are_same pass key p k is in rw (← same.0, ← same.1) less
    go false is = omega arith
