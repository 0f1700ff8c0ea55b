use Rattle.std.proofs.Common.{subst, arith}
use Rattle.sh_lists.specs.Numbers.{Distinct}
use Rattle.sh_queue.specs.Chain.{ChainNumbers}
use Rattle.sh_queue.proofs.Appending.{appending_none, appending_more}
use Rattle.sh_queue.proofs.chain.Chain.append.Goals as goal

pub loop-x-init : goal.loop-x-init
loop-x-init c = appending_none c.args.first c.args.count c.args.self.now c.requires.here c.requires.apart
    (subst (λ (v : ChainNumbers). Distinct v.numbers) c.self.view_is c.self.invariant.distinct)

pub loop-x-preserved : goal.loop-x-preserved
loop-x-preserved c =
    appending_more c.args.first c.args.count c.loop-x.x c.args.self.now c.loop-x.self c.put_before.new.self
    (omega arith) (omega arith) c.requires.apart c.requires.here c.loop-x.invariant c.put_before.ensures.put
    c.put_before.ensures.distinct
