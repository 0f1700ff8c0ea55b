use Rattle.std.proofs.Common.{◌≡◌, true, get_or, sym, subst, ap, ◌∙◌, arith}
use Rattle.std.proofs.lemmas.List.{length-map}
use Rattle.sh_queue.specs.Numbers.{has_number, put_after, following}
use Rattle.sh_queue.specs.Chain.{nexts, prevs}
use Rattle.sh_queue.specs.declared.chain.Link.{Link}
use Rattle.sh_queue.proofs.ChainHolds.{inside, follows, ahead}
use Rattle.sh_queue.proofs.Pairs.{read}
use Rattle.sh_queue.proofs.chain.Chain.put_before.Goals as goal

pub index-requires : goal.index-requires
index-requires c =
    let n = nexts c.self.inside.links.items in
    let p = prevs c.self.inside.links.items in
    let count = c.self.inside.count in
    let small = inside n p count c.args.m c.args.self.now c.self.view_is c.self.invariant c.requires.here in
    omega (arith, c.self.inside.links.ok.0, length-map c.self.inside.links.items (λ (l : Link). l.next))

pub put_between-requires-clause-here : goal.put_between-requires-clause-here
put_between-requires-clause-here c =
    let n = nexts c.self.inside.links.items in
    let p = prevs c.self.inside.links.items in
    let count = c.self.inside.count in
    let small = inside n p count c.args.m c.args.self.now c.self.view_is c.self.invariant c.requires.here in
    let beside = ahead n p count c.args.m c.args.x c.args.self.now c.self.view_is c.self.invariant c.requires.here
    c.requires.inner in
    let is : c.index.result.now.prev ≡ get_or p c.args.m 0 =
    read (λ (l : Link). l.prev) c.self.inside.links.items c.args.m c.index.result.now small.0
    c.index.ensures in
    subst (λ k. has_number k c.args.self.now.numbers ≡ true) (sym is) beside.here

pub put_between-requires-clause-inner : goal.put_between-requires-clause-inner
put_between-requires-clause-inner c =
    let n = nexts c.self.inside.links.items in
    let p = prevs c.self.inside.links.items in
    let count = c.self.inside.count in
    let small = inside n p count c.args.m c.args.self.now c.self.view_is c.self.invariant c.requires.here in
    let beside = ahead n p count c.args.m c.args.x c.args.self.now c.self.view_is c.self.invariant c.requires.here
    c.requires.inner in
    let is : c.index.result.now.prev ≡ get_or p c.args.m 0 =
    read (λ (l : Link). l.prev) c.self.inside.links.items c.args.m c.index.result.now small.0
    c.index.ensures in
    λ same. beside.inner (sym is ∙ same)

pub put_between-requires-clause-next : goal.put_between-requires-clause-next
put_between-requires-clause-next c =
    let n = nexts c.self.inside.links.items in
    let p = prevs c.self.inside.links.items in
    let count = c.self.inside.count in
    let small = inside n p count c.args.m c.args.self.now c.self.view_is c.self.invariant c.requires.here in
    let beside = ahead n p count c.args.m c.args.x c.args.self.now c.self.view_is c.self.invariant c.requires.here
    c.requires.inner in
    let is : c.index.result.now.prev ≡ get_or p c.args.m 0 =
    read (λ (l : Link). l.prev) c.self.inside.links.items c.args.m c.index.result.now small.0
    c.index.ensures in
    sym beside.leads
    ∙ follows n p count (get_or p c.args.m 0) c.args.self.now c.self.view_is c.self.invariant beside.here beside.inner
    ∙ ap (λ k. following k c.args.self.now.numbers) (sym is)

pub returns-clause-put : goal.returns-clause-put
returns-clause-put c =
    let n = nexts c.self.inside.links.items in
    let p = prevs c.self.inside.links.items in
    let count = c.self.inside.count in
    let small = inside n p count c.args.m c.args.self.now c.self.view_is c.self.invariant c.requires.here in
    let beside = ahead n p count c.args.m c.args.x c.args.self.now c.self.view_is c.self.invariant c.requires.here
    c.requires.inner in
    let is : c.index.result.now.prev ≡ get_or p c.args.m 0 =
    read (λ (l : Link). l.prev) c.self.inside.links.items c.args.m c.index.result.now small.0
    c.index.ensures in
    let puts = ap (λ k. put_after k c.args.x c.args.self.now.numbers) is ∙ beside.puts in
    c.put_between.ensures.put ∙ ap (λ zs. record c.args.self.now { numbers = zs }) puts
