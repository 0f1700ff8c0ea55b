use Rattle.sh_queue.proofs.Fronts.{each_once}
use Rattle.sh_queue.proofs.queues.Queues.opened.Goals as goal

pub returns-clause-once : goal.returns-clause-once
returns-clause-once c =
    let q = c.self.inside in
    each_once q.chain.numbers q.chain.size q.opened q.unopened q.full.items c.args.self.now c.self.view_is
    c.self.invariant
