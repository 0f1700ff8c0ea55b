use Rattle.std.proofs.Common.{◌≡◌, ◌+◌, ◌-◌, sym, arith}
use Rattle.tool_load.proofs.Filling.{filled_more, filled_none}
use Rattle.tool_load.proofs.plan.pages_of_mixed.Goals as goal

pub loop-words-init : goal.loop-words-init
loop-words-init c = record { filled = sym (filled_none c.args.each); few = omega arith }

pub loop-words-preserved : goal.loop-words-preserved
loop-words-preserved c =
    let more = filled_more c.loop-words.words c.args.each c.loop-words.auto.words in
    let same : c.loop-words.words + 1 - 1 ≡ c.loop-words.words = omega arith in
    let sum : c.saturating_add-pages.result ≡ c.loop-words.pages + c.pages_of.result = omega arith in
    record { filled = cc; few = omega arith }
