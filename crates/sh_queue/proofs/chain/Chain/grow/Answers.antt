use Rattle.std.proofs.Common.{◌≤◌, length, max, ap, ◌∙◌, subst}
use Rattle.sh_queue.specs.Chain.{ChainNumbers, nexts}
use Rattle.sh_queue.proofs.Growing.{grows}
use Rattle.sh_queue.proofs.chain.Chain.grow.Goals as goal

pub invariant_of-self : goal.invariant_of-self
invariant_of-self c =
    let f = c.self.inside in
    let g = grows c.lengthen.result f.links.items c.lengthen.new.links.items f.count c.args.size c.self.invariant
    c.lengthen.ensures.longer c.lengthen.ensures.same in
    let size = ap (λ (v : ChainNumbers). v.size) c.self.view_is in
    g.holds.links

pub returns-clause-same : goal.returns-clause-same
returns-clause-same c =
    let f = c.self.inside in
    let g = grows c.lengthen.result f.links.items c.lengthen.new.links.items f.count c.args.size c.self.invariant
    c.lengthen.ensures.longer c.lengthen.ensures.same in
    let size = ap (λ (v : ChainNumbers). v.size) c.self.view_is in
    ap (λ (v : ChainNumbers). v.numbers) g.holds.shows ∙ ap (λ (v : ChainNumbers). v.numbers) c.self.view_is

pub returns-clause-kept : goal.returns-clause-kept
returns-clause-kept c =
    let f = c.self.inside in
    let g = grows c.lengthen.result f.links.items c.lengthen.new.links.items f.count c.args.size c.self.invariant
    c.lengthen.ensures.longer c.lengthen.ensures.same in
    let size = ap (λ (v : ChainNumbers). v.size) c.self.view_is in
    subst (λ n. n ≤ length (nexts c.lengthen.new.links.items)) size g.kept

pub returns-clause-room : goal.returns-clause-room
returns-clause-room c =
    let f = c.self.inside in
    let g = grows c.lengthen.result f.links.items c.lengthen.new.links.items f.count c.args.size c.self.invariant
    c.lengthen.ensures.longer c.lengthen.ensures.same in
    let size = ap (λ (v : ChainNumbers). v.size) c.self.view_is in
    g.room

pub returns-clause-lean : goal.returns-clause-lean
returns-clause-lean c =
    let f = c.self.inside in
    let g = grows c.lengthen.result f.links.items c.lengthen.new.links.items f.count c.args.size c.self.invariant
    c.lengthen.ensures.longer c.lengthen.ensures.same in
    let size = ap (λ (v : ChainNumbers). v.size) c.self.view_is in
    subst (λ n. length (nexts c.lengthen.new.links.items) ≤ max n c.args.size) size g.lean
