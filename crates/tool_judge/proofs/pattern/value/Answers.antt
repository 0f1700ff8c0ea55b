use Rattle.std.proofs.Common.{rules, arith}
use Rattle.tool_judge.proofs.PatternLemmas.{one_more_word}
use Rattle.tool_judge.proofs.pattern.value.Goals as goal

pub loop-place-preserved : goal.loop-place-preserved
loop-place-preserved c = record {
  len = search rules;
  words = one_more_word c.args.serial c.loop-place.place c.word.result c.loop-place.words (omega arith) (omega arith)
      c.loop-place.invariant.words c.word.ensures;
}
