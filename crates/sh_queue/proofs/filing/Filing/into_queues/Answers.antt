use Rattle.std.proofs.Common.{◌+◌, false, refl, replicate}
use Rattle.sh_queue.proofs.Fronts.{each_once}
use Rattle.sh_queue.proofs.filing.Filing.into_queues.Goals as goal

pub returns-clause-once : goal.returns-clause-once
returns-clause-once c =
    let f = c.self.inside in
    each_once f.chain.numbers (11 + f.filed) f.filed f.unopened (replicate f.filed false) _ refl c.self.invariant.kept
