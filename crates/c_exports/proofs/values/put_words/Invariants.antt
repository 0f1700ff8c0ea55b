use Rattle.std.proofs.Common.{◌≡◌, ◌++◌, take}
use Rattle.c_exports.proofs.values.put_words.Given as goal

abbrev pub invariant-loop-word : goal.invariant-loop-word
invariant-loop-word l = record { words : l.value ≡ l.fn.value ++ take l.word-index l.words }
