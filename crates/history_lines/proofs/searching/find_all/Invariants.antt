use Rattle.std.proofs.Common.{◌≡◌, ℕ, List, Some}
use Rattle.history_lines.proofs.SearchLemmas.{HasSearched}
use Rattle.history_lines.proofs.searching.find_all.Given as goal

abbrev pub invariant-loop-number : goal.invariant-loop-number
invariant-loop-number g l =
    (text : List ℕ) → g.R.Read.remaining l.fn.input ≡ Some text
    → (rest : List ℕ) × (g.R.Read.remaining l.input ≡ Some rest) × HasSearched l.fn.only text l.number l.search rest
