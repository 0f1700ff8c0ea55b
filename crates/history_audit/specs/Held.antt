-- How many holds each pass has on each key.
use Rattle.std.specs.Prelude.{ℕ, ◌==◌, ◌&&◌, Bool, if◌then◌else◌}
use Rattle.std.specs.HashMap.{get}
use Rattle.std.specs.Map.{count_at}
use Rattle.history_audit.specs.declared.holds.Holds.{Holds}

abbrev pub same_place : ℕ × ℕ → ℕ × ℕ → Bool
same_place x y = (x.0 == y.0) && (x.1 == y.1)

abbrev pub held : Holds → ℕ → ℕ → ℕ
held holds pass key = count_at (get same_place holds.counts) (pass, key)

-- 1 at the place of this pass and key, and 0 at the others
abbrev pub one_at : ℕ → ℕ → ℕ → ℕ → ℕ
one_at pass key p k = if (pass == p) && (key == k) then 1 else 0
