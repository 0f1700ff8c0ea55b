use Rattle.std.proofs.Common.{ap, ◌∙◌, arith}
use Rattle.std.proofs.lemmas.List.{length-map}
use Rattle.sh_queue.specs.Numbers.{has_number}
use Rattle.sh_queue.specs.Chain.{nexts, prevs}
use Rattle.sh_queue.specs.declared.chain.Link.{Link}
use Rattle.sh_queue.proofs.ChainHolds.{inside}
use Rattle.sh_queue.proofs.Pairs.{read, writes_two, holds_paired}
use Rattle.sh_queue.proofs.Unlinking.{unlinks}
use Rattle.sh_queue.proofs.chain.Chain.unlink.Goals as goal

pub index-requires : goal.index-requires
index-requires c =
    let n = nexts c.self.inside.links.items in
    let p = prevs c.self.inside.links.items in
    let count = c.self.inside.count in
    let small = inside n p count c.args.x c.args.self.now c.self.view_is c.self.invariant c.requires.here in
    omega (arith, c.self.inside.links.ok.0, length-map c.self.inside.links.items (λ (l : Link). l.next))

pub index-requires-2 : goal.index-requires-2
index-requires-2 c =
    let n = nexts c.self.inside.links.items in
    let p = prevs c.self.inside.links.items in
    let count = c.self.inside.count in
    let small = inside n p count c.args.x c.args.self.now c.self.view_is c.self.invariant c.requires.here in
    omega (arith, c.self.inside.links.ok.0, length-map c.self.inside.links.items (λ (l : Link). l.next))

pub index_mut-requires : goal.index_mut-requires
index_mut-requires c =
    let n = nexts c.self.inside.links.items in
    let p = prevs c.self.inside.links.items in
    let count = c.self.inside.count in
    let small = inside n p count c.args.x c.args.self.now c.self.view_is c.self.invariant c.requires.here in
    let ls = c.self.inside.links.items in
    let u = unlinks n p count c.args.x c.index.result.now.prev c.index-2.result.now.next c.args.self.now
    c.self.view_is c.self.invariant c.requires.here c.requires.inner
    (read (λ (l : Link). l.prev) ls c.args.x c.index.result.now small.0 c.index.ensures)
    (read (λ (l : Link). l.next) ls c.args.x c.index-2.result.now small.0 c.index-2.ensures) in
    omega (arith, u.before_in, c.self.inside.links.ok.0, length-map ls (λ (l : Link). l.next))

pub index_mut-requires-2 : goal.index_mut-requires-2
index_mut-requires-2 c =
    let n = nexts c.self.inside.links.items in
    let p = prevs c.self.inside.links.items in
    let count = c.self.inside.count in
    let small = inside n p count c.args.x c.args.self.now c.self.view_is c.self.invariant c.requires.here in
    let ls = c.self.inside.links.items in
    let u = unlinks n p count c.args.x c.index.result.now.prev c.index-2.result.now.next c.args.self.now
    c.self.view_is c.self.invariant c.requires.here c.requires.inner
    (read (λ (l : Link). l.prev) ls c.args.x c.index.result.now small.0 c.index.ensures)
    (read (λ (l : Link). l.next) ls c.args.x c.index-2.result.now small.0 c.index-2.ensures) in
    omega (arith, u.behind_in, c.self.inside.links.ok.0, length-map ls (λ (l : Link). l.prev))

pub invariant_of-self : goal.invariant_of-self
invariant_of-self c =
    let n = nexts c.self.inside.links.items in
    let p = prevs c.self.inside.links.items in
    let count = c.self.inside.count in
    let small = inside n p count c.args.x c.args.self.now c.self.view_is c.self.invariant c.requires.here in
    let ls = c.self.inside.links.items in
    let u = unlinks n p count c.args.x c.index.result.now.prev c.index-2.result.now.next c.args.self.now
    c.self.view_is c.self.invariant c.requires.here c.requires.inner
    (read (λ (l : Link). l.prev) ls c.args.x c.index.result.now small.0 c.index.ensures)
    (read (λ (l : Link). l.next) ls c.args.x c.index-2.result.now small.0 c.index-2.ensures) in
    let held = holds_paired (writes_two ls c.index.result.now.prev c.index-2.result.now.next
    c.index_mut.result.now c.index-2.result.now.next c.index.result.now.prev c.index_mut-2.result.now
    c.index_mut.ensures.value c.index_mut-2.ensures.value) u.holds in
    held.links

pub returns-clause-out : goal.returns-clause-out
returns-clause-out c =
    let n = nexts c.self.inside.links.items in
    let p = prevs c.self.inside.links.items in
    let count = c.self.inside.count in
    let small = inside n p count c.args.x c.args.self.now c.self.view_is c.self.invariant c.requires.here in
    let ls = c.self.inside.links.items in
    let u = unlinks n p count c.args.x c.index.result.now.prev c.index-2.result.now.next c.args.self.now
    c.self.view_is c.self.invariant c.requires.here c.requires.inner
    (read (λ (l : Link). l.prev) ls c.args.x c.index.result.now small.0 c.index.ensures)
    (read (λ (l : Link). l.next) ls c.args.x c.index-2.result.now small.0 c.index-2.ensures) in
    let held = holds_paired (writes_two ls c.index.result.now.prev c.index-2.result.now.next
    c.index_mut.result.now c.index-2.result.now.next c.index.result.now.prev c.index_mut-2.result.now
    c.index_mut.ensures.value c.index_mut-2.ensures.value) u.holds in
    held.shows

pub returns-clause-gone : goal.returns-clause-gone
returns-clause-gone c =
    let n = nexts c.self.inside.links.items in
    let p = prevs c.self.inside.links.items in
    let count = c.self.inside.count in
    let small = inside n p count c.args.x c.args.self.now c.self.view_is c.self.invariant c.requires.here in
    let ls = c.self.inside.links.items in
    let u = unlinks n p count c.args.x c.index.result.now.prev c.index-2.result.now.next c.args.self.now
    c.self.view_is c.self.invariant c.requires.here c.requires.inner
    (read (λ (l : Link). l.prev) ls c.args.x c.index.result.now small.0 c.index.ensures)
    (read (λ (l : Link). l.next) ls c.args.x c.index-2.result.now small.0 c.index-2.ensures) in
    let held = holds_paired (writes_two ls c.index.result.now.prev c.index-2.result.now.next
    c.index_mut.result.now c.index-2.result.now.next c.index.result.now.prev c.index_mut-2.result.now
    c.index_mut.ensures.value c.index_mut-2.ensures.value) u.holds in
    ap (λ v. has_number c.args.x v.numbers) held.shows ∙ u.gone
