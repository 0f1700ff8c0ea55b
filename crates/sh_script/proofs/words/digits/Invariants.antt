use Rattle.std.proofs.Common.{◌≡◌, drop}
use Rattle.sh_script.specs.Words.{number_from}
use Rattle.sh_script.proofs.words.digits.Given as goal

abbrev pub invariant-loop-b : goal.invariant-loop-b
invariant-loop-b l = number_from l.number (drop l.b-index l.word) ≡ number_from 0 l.word
