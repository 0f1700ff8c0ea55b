use Rattle.std.proofs.Common.{◌≡◌, length}
use Rattle.std.specs.Vec.{vec_capacity}
use Rattle.sh_table.specs.TableOpening.{opening_words}
use Rattle.sh_table.proofs.opening.words_of.Given as goal

abbrev pub invariant-loop-number : goal.invariant-loop-number
invariant-loop-number l = record {
  words : l.words.items ≡ opening_words l.pages l.number;
  count : length l.words.items ≡ l.number;
  room : vec_capacity l.words ≡ l.count;
}
