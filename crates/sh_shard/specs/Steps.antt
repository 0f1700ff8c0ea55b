-- How many steps the parts of a call take.
use Rattle.std.specs.Prelude.{ℕ, ◌+◌, ◌≤◌, length}
use Rattle.sh_pass.specs.Passes.{Caller}

-- at most this number of steps was taken
abbrev pub StepsAtMost : ℕ → Caller → Caller → Type 0
StepsAtMost k v w = length w.view.own.trail ≤ length v.view.own.trail + k
