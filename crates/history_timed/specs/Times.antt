-- The times of a call.
use Rattle.std.specs.Prelude.{ℕ, ◌≤◌, nat_lt, Bool, false, Option, Some, None, IfSome, is_some}

-- when a call began, and when it ended, if it did
pub record Times : Type 0 where
  pub begin : ℕ
  pub end : Option ℕ

abbrev pub is_ended : Times → Bool
is_ended times = is_some times.end

-- the end, if there is one, is below the number
abbrev pub is_below : Option ℕ → ℕ → Bool
is_below None n = false
is_below (Some end) n = nat_lt end n

-- one call ended before the other began
abbrev pub ends_before : Times → Times → Bool
ends_before one other = is_below one.end other.begin

-- the moment is one of the times of the call
pub record IsWithin (times : Times) (moment : ℕ) : Type 0 where
  pub begun : times.begin ≤ moment
  pub not_ended : IfSome times.end (λ end. moment ≤ end)
