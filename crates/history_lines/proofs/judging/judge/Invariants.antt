use Rattle.std.proofs.Common.{◌≡◌, ℕ, List, Some}
use Rattle.history_lines.specs.Judged.{HasRead}
use Rattle.history_lines.proofs.judging.judge.Given as goal

abbrev pub invariant-loop-number : goal.invariant-loop-number
invariant-loop-number g l =
    (text : List ℕ) → g.R.Read.remaining l.fn.input ≡ Some text
    → (rest : List ℕ) × (g.R.Read.remaining l.input ≡ Some rest) × HasRead text l.number l.reading rest
