use Rattle.tool_bench.proofs.Parts.{shares_whole}
use Rattle.tool_bench.proofs.lots.share.Goals as goal

pub returns-then-number-whole-clause-all : goal.returns-then-number-whole-clause-all
returns-then-number-whole-clause-all c = shares_whole c.args.whole c.args.parts

pub returns-else-number-whole-clause-all : goal.returns-else-number-whole-clause-all
returns-else-number-whole-clause-all c = shares_whole c.args.whole c.args.parts
