use Rattle.std.proofs.Common.{◌<◌, ◌*◌, ◌∙◌, arith, ap, refl, subst, sym, ℕ}
use Rattle.sh_shape.specs.Places.{all_pages}
use Rattle.sh_table.specs.Seats.{Heap}
use Rattle.sh_gather.proofs.Walking.{later_same, later_again}
use Rattle.sh_gather.proofs.NextKeyLaws.{none_more, none_noted, none_yet}
use Rattle.sh_gather.proofs.next_keys.next_key.Goals as goal

pub loop-place-init : goal.loop-place-init
loop-place-init g c =
    let pages = c.from.ensures ∙ (c.page_count.ensures ∙ ap all_pages c.shape.ensures.is) in
    let each = c.from-2.ensures in (
      refl,
      later_same c.args.whole.now.view,
      (λ i. pages i * each i),
      omega arith,
      none_yet g.L.KeyLayout.layout c.args.whole.now c.args.from,
    )

pub key_at-requires : goal.key_at-requires
key_at-requires g c =
    let i = c.loop-place.invariant in
    subst (λ (h : Heap). c.loop-place.place < all_pages h.shape * 48) (sym i.0)
    (subst (λ (m : ℕ). c.loop-place.place < m) i.2 c.loop-place-test.true)

pub loop-place-preserved : goal.loop-place-preserved
loop-place-preserved g c =
    let i = c.loop-place.invariant in
    let old = c.args.whole.now in
    let at = c.loop-place.whole in
    let new = c.key_at.new.self in
    let e = c.key_at.ensures in
    let some = i.3 in (
      e.heap ∙ i.0,
      later_again old.view at.view new.view i.1 e.tale,
      i.2,
      omega arith,
      none_more g.L.KeyLayout.layout at new c.args.from c.loop-place.place e.tale i.4 c.in_default.ensures.key,
    )

pub returns-in-Some-clause-heap : goal.returns-in-Some-clause-heap
returns-in-Some-clause-heap g c = c.key_at.ensures.heap ∙ c.loop-place.invariant.0

pub returns-in-Some-clause-tale : goal.returns-in-Some-clause-tale
returns-in-Some-clause-tale g c = later_again c.args.whole.now.view c.loop-place.whole.view c.key_at.new.self.view
    c.loop-place.invariant.1 c.key_at.ensures.tale

pub returns-in-Some-clause-next : goal.returns-in-Some-clause-next
returns-in-Some-clause-next g c =
    let i = c.loop-place.invariant in
    let e = c.key_at.ensures in record {
      place = c.loop-place.place;
      behind = refl;
      from_there = i.3;
      inside = subst (λ (h : Heap). c.loop-place.place < all_pages h.shape * 48) (sym (e.heap ∙ i.0))
          (subst (λ (m : ℕ). c.loop-place.place < m) i.2 c.loop-place-test.true);
      live = c.in-Some.ensures.key;
      before = none_noted g.L.KeyLayout.layout c.loop-place.whole c.key_at.new.self c.args.from c.loop-place.place
          e.tale i.4;
    }

pub returns-clause-next : goal.returns-clause-next
returns-clause-next g c = λ n some low.
    (let i = c.loop-place.invariant in let done = c.loop-place-test.false in let inside = subst (λ (m : ℕ). n < m)
    (sym i.2) (subst (λ (h : Heap). n < all_pages h.shape * 48) i.0 low) in i.4 n some (omega arith))
