use Rattle.std.proofs.Common.{◌∙◌, arith}
use Rattle.std.proofs.lemmas.List.{length-map}
use Rattle.sh_queue.specs.Chain.{nexts, prevs}
use Rattle.sh_queue.specs.declared.chain.Link.{Link}
use Rattle.sh_queue.proofs.ChainHolds.{inside, ahead}
use Rattle.sh_queue.proofs.Pairs.{read}
use Rattle.sh_queue.proofs.chain.Chain.preceding.Goals as goal

pub index-requires : goal.index-requires
index-requires c =
    let n = nexts c.self.inside.links.items in
    let p = prevs c.self.inside.links.items in
    let count = c.self.inside.count in
    let small = inside n p count c.args.m c.args.self.now c.self.view_is c.self.invariant c.requires.here in
    omega (arith, c.self.inside.links.ok.0, length-map c.self.inside.links.items (λ (l : Link). l.next))

pub returns : goal.returns
returns c =
    let n = nexts c.self.inside.links.items in
    let p = prevs c.self.inside.links.items in
    let count = c.self.inside.count in
    let small = inside n p count c.args.m c.args.self.now c.self.view_is c.self.invariant c.requires.here in
    read (λ (l : Link). l.prev) c.self.inside.links.items c.args.m c.index.result.now small.0 c.index.ensures
    ∙ (ahead n p count c.args.m 0 c.args.self.now c.self.view_is c.self.invariant c.requires.here c.requires.inner).is
