use Rattle.std.proofs.Common.{arith}
use Rattle.sh_lists.proofs.Walks.{pushes_first, pushes, room}
use Rattle.sh_lists.proofs.lists.PageLists.push_local.Goals as goal

pub invariant_of-self : goal.invariant_of-self
invariant_of-self c =
    let p = c.self.inside in (
      (pushes_first p.next p.free.front p.free.count p.free.end p.local.front p.local.count p.local.end c.args.slot
          p.cursor c.args.self.now c.self.view_is c.if-self-eq0.true c.self.invariant.0 c.requires.small
          c.requires.apart).threaded,
      c.self.invariant.1,
    )

pub returns-then-self-eq0 : goal.returns-then-self-eq0
returns-then-self-eq0 c =
    let p = c.self.inside in
    (pushes_first p.next p.free.front p.free.count p.free.end p.local.front p.local.count p.local.end c.args.slot
    p.cursor c.args.self.now c.self.view_is c.if-self-eq0.true c.self.invariant.0 c.requires.small
    c.requires.apart).shows

pub overflow_add-self : goal.overflow_add-self
overflow_add-self c =
    let p = c.self.inside in
    omega (
      arith,
      room p.next p.free.front p.free.count p.free.end p.local.front p.local.count p.local.end
          c.self.invariant.0,
    )

pub invariant_of-self-2 : goal.invariant_of-self-2
invariant_of-self-2 c =
    let p = c.self.inside in (
      (pushes p.next p.free.front p.free.count p.free.end p.local.front p.local.count p.local.end c.args.slot p.cursor
          c.args.self.now c.self.view_is c.self.told (omega arith) c.self.invariant.0 c.requires.small
          c.requires.apart).threaded,
      c.self.invariant.1,
    )

pub returns : goal.returns
returns c =
    let p = c.self.inside in
    (pushes p.next p.free.front p.free.count p.free.end p.local.front p.local.count p.local.end c.args.slot p.cursor
    c.args.self.now c.self.view_is c.self.told (omega arith) c.self.invariant.0 c.requires.small
    c.requires.apart).shows
