use Rattle.std.proofs.Common.{ℕ, ◌<◌, ◌≡◌, ◌∙◌, arith, subst, sym, ap}
use Rattle.sh_shape.specs.Places.{all_pages, page_number}
use Rattle.sh_shape.specs.Shape.{Numbers}
use Rattle.sh_table.specs.declared.view.View.{View}
use Rattle.sh_gather.specs.Gathering.{AreWholeAccounts}
use Rattle.sh_gather.proofs.Walking.{page_is, later_shape, note_length}
use Rattle.sh_gather.proofs.accounts.accounts.Goals as goal

pub returns-clause-are : goal.returns-clause-are
returns-clause-are g c =
    let s = c.count_states-accounts in
    let w = c.walk in
    let q : ℕ = c.from-number.result in
    let own : Numbers = c.args.pass.now.heap.shape in
    let shape : w.new.pass.view.shape ≡ own = later_shape s.new.pass.view w.new.pass.view w.ensures.later
    ∙ (later_shape c.load.new.self.view s.new.pass.view s.ensures.later
    ∙ (ap (λ (v : View). v.shape) c.load.ensures.view ∙ c.shape-shape.ensures.rest.shape)) in
    let heap : c.shape-shape.result.now ≡ own = c.shape-shape.ensures.is in
    let below : q < all_pages own = subst (λ (n : Numbers). q < all_pages n) heap
    (subst (λ (n : ℕ). n < all_pages c.shape-shape.result.now) (sym c.from-number.ensures)
    c.page_number.ensures.below) in
    let are = page_is g.L.KeyLayout.layout c.args.pass.now.view c.load.new.self.view s.new.pass.view w.new.pass.view q
    c.load.result c.class_of-class.result.0 c.class_of-class.result.1 w.result s.result c.core_refines.ensures
    c.load.ensures.view s.ensures.later w.ensures.later w.ensures.gathered w.ensures.known
    (subst (λ (n : Numbers). q < all_pages n) (sym shape) below) c.class_of-class.ensures.class
    c.class_of-class.ensures.count s.ensures.counted s.ensures.alone w.ensures.queued w.ensures.walked in
    let number = c.from-number.ensures ∙ (c.page_number.ensures.is
    ∙ ap (λ (n : Numbers). page_number n c.args.shard c.args.page) heap) in
    subst (λ (n : ℕ). AreWholeAccounts g.L.KeyLayout.layout w.new.pass.view n (record (s.result) { queued = w.result }))
    number are

pub returns-clause-looks : goal.returns-clause-looks
returns-clause-looks g c =
    let class = note_length c.args.pass.now.view c.load.new.self.view _ c.load.result c.load.ensures.view in
    let states = c.count_states-accounts.ensures.looks in
    let few = c.class_of-class.ensures.few in
    let stack = c.walk.ensures.looks in omega arith
