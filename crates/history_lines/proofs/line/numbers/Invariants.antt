use Rattle.std.proofs.Common.{◌≡◌, ◌≤◌, [], length, drop, map}
use Rattle.history_lines.specs.Line.{numbers_from}
use Rattle.history_lines.proofs.line.numbers.Given as goal

abbrev pub invariant-loop-word : goal.invariant-loop-word
invariant-loop-word l =
    (length l.value ≤ l.word-index)
    × (numbers_from l.value (map (λ w. w.now) (drop l.word-index l.words)) ≡ numbers_from [] (map (λ w. w.now) l.words))
