use Rattle.std.proofs.Common.{◌≡◌, drop, map, []}
use Rattle.sh_script.specs.Arguments.{numbers_from}
use Rattle.sh_script.proofs.numbers.read_numbers.Given as goal

abbrev pub invariant-loop-word : goal.invariant-loop-word
invariant-loop-word l = numbers_from l.numbers (map (λ w. w.now) (drop l.word-index l.words))
    ≡ numbers_from [] (map (λ w. w.now) l.words)
