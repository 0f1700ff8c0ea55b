-- The exit status of a program that shows a text.
use Rattle.std.specs.Prelude.{◌≡◌, ◌⊎◌, ℕ}

-- the text was shown, or a write failed
abbrev pub IsShown : ℕ → Type 0
IsShown status = (status ≡ 0) ⊎ (status ≡ 3)
