use Rattle.std.proofs.Common.{arith}
use Rattle.sh_lists.specs.Lists.{walk}
use Rattle.sh_lists.proofs.Walks.{popped}
use Rattle.sh_lists.proofs.lists.PageLists.pop.Goals as goal

pub invariant_of-self : goal.invariant_of-self
invariant_of-self c =
    let p = c.self.inside in
    let local = walk p.next p.local.front p.local.count in (
      (popped p.next p.free.front p.free.count p.free.end local p.local.end (omega arith) c.self.invariant.0).threaded,
      c.self.invariant.1,
    )

pub returns-clause-apart : goal.returns-clause-apart
returns-clause-apart c =
    let p = c.self.inside in
    let local = walk p.next p.local.front p.local.count in
    (popped p.next p.free.front p.free.count p.free.end local p.local.end (omega arith) c.self.invariant.0).apart
