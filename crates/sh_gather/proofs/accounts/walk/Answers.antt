use Rattle.std.proofs.Common.{◌∙◌, ℕ, ◌-◌, ◌<◌, ◌≤◌, ◌≡◌, arith, subst, sym}
use Rattle.sh_shape.specs.declared.places.Place.TheVariants.{Head, Link}
use Rattle.sh_shape.specs.Places.{all_pages}
use Rattle.sh_table.specs.Seats.{Heap}
use Rattle.sh_gather.specs.Histories.{Sure}
use Rattle.sh_gather.specs.Gathering.{WalkedTo}
use Rattle.sh_gather.proofs.Walking.{HasWalked, later_one, note_gathered, note_length, begin_walk, word_walk, next_walk}
use Rattle.sh_gather.proofs.Walking.{walk_place, walk_done, walk_whole, walked_none, walked_more, walked_all}
use Rattle.sh_gather.proofs.accounts.walk.Goals as goal

pub load-top-requires-clause-whole : goal.load-top-requires-clause-whole
load-top-requires-clause-whole g c = c.requires.gathered.whole

pub loop-queued-init : goal.loop-queued-init
loop-queued-init g c =
    let e = c.load-top.ensures in
    let v = c.args.pass.now.view in
    let u = c.load-top.new.self.view in
    let word = c.load-top.result in
    let gathered = note_gathered v u (Head c.args.page) word e.view c.requires.gathered in (
      e.same,
      gathered,
      e.known,
      later_one v u (Head c.args.page) word e.view,
      begin_walk g.L.KeyLayout.layout v u
          c.args.page word c.core_refines.ensures e.view gathered e.known,
      walked_none v u c.args.page word e.view,
      let
          look = note_length v u (Head c.args.page) word e.view in omega arith,
    )

pub returns-then-top-eq0-clause-heap : goal.returns-then-top-eq0-clause-heap
returns-then-top-eq0-clause-heap g c = c.loop-queued.invariant.0

pub returns-then-top-eq0-clause-gathered : goal.returns-then-top-eq0-clause-gathered
returns-then-top-eq0-clause-gathered g c = c.loop-queued.invariant.1

pub returns-then-top-eq0-clause-known : goal.returns-then-top-eq0-clause-known
returns-then-top-eq0-clause-known g c = c.loop-queued.invariant.2

pub returns-then-top-eq0-clause-later : goal.returns-then-top-eq0-clause-later
returns-then-top-eq0-clause-later g c = c.loop-queued.invariant.3

pub returns-then-top-eq0-clause-looks : goal.returns-then-top-eq0-clause-looks
returns-then-top-eq0-clause-looks g c = let looks = c.loop-queued.invariant.6 in let few = c.loop-queued-test.true
    in omega arith

pub returns-then-top-eq0-clause-queued : goal.returns-then-top-eq0-clause-queued
returns-then-top-eq0-clause-queued g c =
    let i = c.loop-queued.invariant in
    walk_done g.L.KeyLayout.layout c.loop-queued.pass.view c.args.page c.loop-queued.queued c.loop-queued.top
    c.core_refines.ensures i.1 i.2 i.4 c.if-top-eq0.true

pub returns-then-top-eq0-clause-walked : goal.returns-then-top-eq0-clause-walked
returns-then-top-eq0-clause-walked g c = walked_all c.loop-queued.pass.view c.args.page c.loop-queued.queued
    c.loop-queued.top c.if-top-eq0.true c.loop-queued.invariant.5

pub load-top-requires-in-loop-queued-clause-whole : goal.load-top-requires-in-loop-queued-clause-whole
load-top-requires-in-loop-queued-clause-whole g c = c.loop-queued.invariant.1.whole

pub load-top-requires-in-loop-queued-clause-place : goal.load-top-requires-in-loop-queued-clause-place
load-top-requires-in-loop-queued-clause-place g c =
    let i = c.loop-queued.invariant in (
      subst (λ (h : Heap). c.args.page < all_pages h.shape) (sym i.0) c.requires.page,
      walk_place g.L.KeyLayout.layout
          c.loop-queued.pass.view c.args.page c.loop-queued.queued c.loop-queued.top c.core_refines.ensures i.1 i.2 i.4
          (let ne = c.if-top-eq0.false in omega arith),
    )

pub overflow_sub-top-in-loop-queued : goal.overflow_sub-top-in-loop-queued
overflow_sub-top-in-loop-queued g c =
    let i = c.loop-queued.invariant in
    let e = c.load-top-in-loop-queued.ensures in
    word_walk g.L.KeyLayout.layout c.loop-queued.pass.view c.load-top-in-loop-queued.new.self.view c.args.page
    c.loop-queued.queued c.loop-queued.top c.load-top-in-loop-queued.result c.core_refines.ensures e.view e.known
    i.1 i.2 i.4 (let ne = c.if-top-eq0.false in omega arith)

pub loop-queued-preserved : goal.loop-queued-preserved
loop-queued-preserved g c =
    let i = c.loop-queued.invariant in
    let e = c.load-top-in-loop-queued.ensures in
    let v = c.loop-queued.pass.view in
    let u = c.load-top-in-loop-queued.new.self.view in
    let t : ℕ = c.loop-queued.top in
    let word = c.load-top-in-loop-queued.result in
    let some : 0 < t = let ne = c.if-top-eq0.false in omega arith in
    let n = next_walk g.L.KeyLayout.layout c.args.pass.now.view v u c.args.page c.loop-queued.queued t word
    c.core_refines.ensures e.view i.1 i.2 i.3 i.4 some in
    let linked : 1 ≤ word = word_walk g.L.KeyLayout.layout v u c.args.page c.loop-queued.queued t word
    c.core_refines.ensures e.view e.known i.1 i.2 i.4 some in (
      e.same ∙ i.0,
      note_gathered v u (Link c.args.page (t - 1)) word e.view i.1,
      e.known,
      n.0,
      n.1,
      walked_more v u
          c.args.page c.loop-queued.queued t word e.view some linked i.5,
      let look = note_length v u
          (Link c.args.page (t - 1)) word e.view in let looks = i.6 in omega arith,
    )

pub returns-clause-queued : goal.returns-clause-queued
returns-clause-queued g c =
    let i = c.loop-queued.invariant in
    let full : c.loop-queued.queued ≡ 48 = let le = c.loop-queued-test.false in let few = c.loop-queued.auto.queued-end
    in omega arith in
    (walk_whole g.L.KeyLayout.layout c.loop-queued.pass.view c.args.page c.loop-queued.top c.core_refines.ensures i.1
    i.2 (subst (λ (n : ℕ). Sure g.L.KeyLayout.layout c.loop-queued.pass.view
    (WalkedTo c.args.page n c.loop-queued.top)) full i.4)).1

pub returns-clause-walked : goal.returns-clause-walked
returns-clause-walked g c =
    let i = c.loop-queued.invariant in
    let full : c.loop-queued.queued ≡ 48 = let le = c.loop-queued-test.false in let few = c.loop-queued.auto.queued-end
    in omega arith in
    let none = (walk_whole g.L.KeyLayout.layout c.loop-queued.pass.view c.args.page c.loop-queued.top
    c.core_refines.ensures i.1 i.2 (subst (λ (n : ℕ). Sure g.L.KeyLayout.layout c.loop-queued.pass.view
    (WalkedTo c.args.page n c.loop-queued.top)) full i.4)).0 in
    walked_all c.loop-queued.pass.view c.args.page 48 c.loop-queued.top none
    (subst (λ (n : ℕ). HasWalked c.loop-queued.pass.view c.args.page n c.loop-queued.top) full i.5)
