use Rattle.std.proofs.Common.{set, ◌∙◌, sym, arith}
use Rattle.std.proofs.lemmas.List.{length-map}
use Rattle.sh_queue.specs.Chain.{nexts, prevs}
use Rattle.sh_queue.specs.declared.chain.Link.{Link}
use Rattle.sh_queue.proofs.ChainHolds.{inside, follows}
use Rattle.sh_queue.proofs.Linking.{puts}
use Rattle.sh_queue.proofs.Pairs.{two_written, writes_two, writes_both, holds_paired}
use Rattle.sh_queue.proofs.chain.Chain.put_between.Goals as goal

pub index_mut-requires : goal.index_mut-requires
index_mut-requires c =
    let n = nexts c.self.inside.links.items in
    let p = prevs c.self.inside.links.items in
    let count = c.self.inside.count in
    let small = inside n p count c.args.s c.args.self.now c.self.view_is c.self.invariant c.requires.here in
    omega (arith, c.self.inside.links.ok.0, length-map c.self.inside.links.items (λ (l : Link). l.next))

pub index_mut-requires-2 : goal.index_mut-requires-2
index_mut-requires-2 c =
    let n = nexts c.self.inside.links.items in
    let p = prevs c.self.inside.links.items in
    let count = c.self.inside.count in
    let small = inside n p count c.args.s c.args.self.now c.self.view_is c.self.invariant c.requires.here in
    let ls = c.self.inside.links.items in
    let u = puts n p count c.args.s c.args.x c.args.behind c.args.self.now c.self.view_is c.self.invariant
    c.requires.here c.requires.inner c.requires.apart c.requires.inside
    (c.requires.next ∙ sym (follows n p count c.args.s c.args.self.now c.self.view_is c.self.invariant c.requires.here
    c.requires.inner)) in
    omega (arith, u.behind_in, c.self.inside.links.ok.0, length-map ls (λ (l : Link). l.prev))

pub overflow_add-self : goal.overflow_add-self
overflow_add-self c =
    let n = nexts c.self.inside.links.items in
    let p = prevs c.self.inside.links.items in
    let count = c.self.inside.count in
    let small = inside n p count c.args.s c.args.self.now c.self.view_is c.self.invariant c.requires.here in
    let ls = c.self.inside.links.items in
    let u = puts n p count c.args.s c.args.x c.args.behind c.args.self.now c.self.view_is c.self.invariant
    c.requires.here c.requires.inner c.requires.apart c.requires.inside
    (c.requires.next ∙ sym (follows n p count c.args.s c.args.self.now c.self.view_is c.self.invariant c.requires.here
    c.requires.inner)) in
    omega (arith, u.room, c.self.inside.links.ok.0, length-map ls (λ (l : Link). l.next))

pub invariant_of-self : goal.invariant_of-self
invariant_of-self c =
    let n = nexts c.self.inside.links.items in
    let p = prevs c.self.inside.links.items in
    let count = c.self.inside.count in
    let small = inside n p count c.args.s c.args.self.now c.self.view_is c.self.invariant c.requires.here in
    let ls = c.self.inside.links.items in
    let u = puts n p count c.args.s c.args.x c.args.behind c.args.self.now c.self.view_is c.self.invariant
    c.requires.here c.requires.inner c.requires.apart c.requires.inside
    (c.requires.next ∙ sym (follows n p count c.args.s c.args.self.now c.self.view_is c.self.invariant c.requires.here
    c.requires.inner)) in
    let two = writes_two ls c.args.s c.args.x c.index_mut.result.now c.args.behind c.args.x c.index_mut-2.result.now
    c.index_mut.ensures.value c.index_mut-2.ensures.value in
    let held = holds_paired (writes_both (two_written ls c.args.s c.args.x c.index_mut.result.now c.args.behind c.args.x
    c.index_mut-2.result.now) (set n c.args.s c.args.x) (set p c.args.behind c.args.x) c.args.x c.args.behind c.args.s
    two) u.holds in
    held.links

pub returns-clause-put : goal.returns-clause-put
returns-clause-put c =
    let n = nexts c.self.inside.links.items in
    let p = prevs c.self.inside.links.items in
    let count = c.self.inside.count in
    let small = inside n p count c.args.s c.args.self.now c.self.view_is c.self.invariant c.requires.here in
    let ls = c.self.inside.links.items in
    let u = puts n p count c.args.s c.args.x c.args.behind c.args.self.now c.self.view_is c.self.invariant
    c.requires.here c.requires.inner c.requires.apart c.requires.inside
    (c.requires.next ∙ sym (follows n p count c.args.s c.args.self.now c.self.view_is c.self.invariant c.requires.here
    c.requires.inner)) in
    let two = writes_two ls c.args.s c.args.x c.index_mut.result.now c.args.behind c.args.x c.index_mut-2.result.now
    c.index_mut.ensures.value c.index_mut-2.ensures.value in
    let held = holds_paired (writes_both (two_written ls c.args.s c.args.x c.index_mut.result.now c.args.behind c.args.x
    c.index_mut-2.result.now) (set n c.args.s c.args.x) (set p c.args.behind c.args.x) c.args.x c.args.behind c.args.s
    two) u.holds in
    held.shows

pub returns-clause-distinct : goal.returns-clause-distinct
returns-clause-distinct c =
    let n = nexts c.self.inside.links.items in
    let p = prevs c.self.inside.links.items in
    let count = c.self.inside.count in
    let small = inside n p count c.args.s c.args.self.now c.self.view_is c.self.invariant c.requires.here in
    let ls = c.self.inside.links.items in
    let u = puts n p count c.args.s c.args.x c.args.behind c.args.self.now c.self.view_is c.self.invariant
    c.requires.here c.requires.inner c.requires.apart c.requires.inside
    (c.requires.next ∙ sym (follows n p count c.args.s c.args.self.now c.self.view_is c.self.invariant c.requires.here
    c.requires.inner)) in
    let two = writes_two ls c.args.s c.args.x c.index_mut.result.now c.args.behind c.args.x c.index_mut-2.result.now
    c.index_mut.ensures.value c.index_mut-2.ensures.value in
    let held = holds_paired (writes_both (two_written ls c.args.s c.args.x c.index_mut.result.now c.args.behind c.args.x
    c.index_mut-2.result.now) (set n c.args.s c.args.x) (set p c.args.behind c.args.x) c.args.x c.args.behind c.args.s
    two) u.holds in
    held.links.distinct
