use Rattle.std.proofs.Common.{◌≡◌, ◌≤◌, ◌++◌, take}
use Rattle.std.specs.Vec.{vec_capacity}
use Rattle.script_output.specs.Numbers.{words_text}
use Rattle.script_output.proofs.numbers.push_words.Given as goal

abbrev pub invariant-loop-word : goal.invariant-loop-word
invariant-loop-word l = record {
  text : l.out.items ≡ l.fn.out.items ++ words_text (take l.word-index l.words);
  room : vec_capacity l.fn.out ≤ vec_capacity l.out;
}
