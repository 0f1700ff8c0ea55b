-- A cursor that waits met a link that was not written yet. So its page or bell met more of them than before.
use Rattle.std.proofs.Common.{ℕ, ◌<◌, ◌≤◌, Option, Some, None, MatchOption, arith}

pub waits_at : (c : Option ℕ) (a b : ℕ) → a < b → MatchOption c (Unit {0}) (λ _. a < b)
waits_at None a b l = tt
waits_at (Some s) a b l = l

-- it also met more of them than at an earlier time
pub waits_since : (c : Option ℕ) (A : Type 0) (a b d : ℕ) → a ≤ b → MatchOption c A (λ _. b < d)
    → MatchOption c A (λ _. a < d)
waits_since None A a b d l h = h
waits_since (Some s) A a b d l h = omega arith
