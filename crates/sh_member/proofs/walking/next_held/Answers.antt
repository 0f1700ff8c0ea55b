use Rattle.std.proofs.Common.{◌+◌, ◌*◌, ◌≤◌, Ok, Option, ap, arith, inl, inr, refl, subst, ◌∙◌}
use Rattle.std.specs.Prelude.{min}
use Rattle.std.proofs.lemmas.Result.{err_from_is_err_and}
use Rattle.sh_shape.specs.Places.{all_pages}
use Rattle.sh_member.specs.Walks.{NextHeldDoes}
use Rattle.sh_member.specs.declared.walking.NextHeld.{NextHeld}
use Rattle.sh_member.proofs.Ending.{remains_along}
use Rattle.sh_member.proofs.PlaceWalks.{ends, full_none, held_all, held_found, held_on, held_refused, reaches}
use Rattle.sh_member.proofs.PlaceWalks.{skips_none, within}
use Rattle.sh_member.proofs.walking.next_held.Goals as goal

pub loop-place-init : goal.loop-place-init
loop-place-init g c =
    let v = g.R.Reader.caller c.args.reader.now in
    record {
      low = omega arith;
      end = c.min-place-end.ensures ∙ ap (λ n. min c.args.before n) c.heap_places.ensures.is;
      reached = inr refl;
      does = (skips_none g.R.Reader.layout 8 c.args.from v, full_none g.R.Reader.layout c.args.from v);
      remains = c.heap_places.ensures.rest;
    }

pub returns-in_err-next-clause-does : goal.returns-in_err-next-clause-does
returns-in_err-next-clause-does g c =
    let layout = g.R.Reader.layout in
    let v = g.R.Reader.caller c.args.reader.now in
    let i = c.loop-place.invariant in
    let a = g.R.Reader.caller c.loop-place.reader in
    let place = c.loop-place.place in
    let p = err_from_is_err_and c.from_residual.result c.from_residual.ensures.1 in
    rw (p.1, p.2) (held_refused layout c.args.from place c.args.before _ v a (g.R.Reader.caller c.held_at.new.reader)
    i.does i.low (within c.args.before (all_pages v.heap.shape * 48) c.min-place-end.result place i.end
    c.loop-place-test.true) c.in_err-next.ensures.does)

pub returns-in-Some-clause-does : goal.returns-in-Some-clause-does
returns-in-Some-clause-does g c =
    let layout = g.R.Reader.layout in
    let v = g.R.Reader.caller c.args.reader.now in
    let i = c.loop-place.invariant in
    let a = g.R.Reader.caller c.loop-place.reader in
    let w = g.R.Reader.caller c.held_at.new.reader in
    let place = c.loop-place.place in
    held_found layout c.args.from place c.args.before c.in-Some.next v a w i.does i.low
    (within c.args.before (all_pages v.heap.shape * 48) c.min-place-end.result place i.end c.loop-place-test.true)
    (subst (λ (o : Option NextHeld). NextHeldDoes layout place (place + 1) a (Ok o) w) c.in-Some.is
    c.in_ok-next.ensures.does)

pub loop-place-preserved : goal.loop-place-preserved
loop-place-preserved g c =
    let layout = g.R.Reader.layout in
    let v = g.R.Reader.caller c.args.reader.now in
    let i = c.loop-place.invariant in
    let a = g.R.Reader.caller c.loop-place.reader in
    let w = g.R.Reader.caller c.held_at.new.reader in
    let place = c.loop-place.place in
    let low = i.low in
    let below = c.loop-place-test.true in
    record {
      low = omega arith;
      end = i.end;
      reached = inl (let reached : place + 1 ≤ c.min-place-end.result = omega arith in reached);
      does = held_on layout c.args.from place v a w i.does i.low
          (subst (λ (o : Option NextHeld). NextHeldDoes layout place (place + 1) a (Ok o) w) c.in_default.is
          c.in_ok-next.ensures.does);
      remains = remains_along layout v a w i.remains c.in_ok-next.ensures.remains;
    }

pub returns-clause-does : goal.returns-clause-does
returns-clause-does g c =
    let layout = g.R.Reader.layout in
    let v = g.R.Reader.caller c.args.reader.now in
    let i = c.loop-place.invariant in
    let a = g.R.Reader.caller c.loop-place.reader in
    let place = c.loop-place.place in
    let places = all_pages v.heap.shape * 48 in
    held_all layout c.args.from place c.args.before v a i.does
    (ends c.args.before places place (subst (λ n. n ≤ place) i.end c.loop-place-test.false))
    (reaches c.args.before places c.min-place-end.result place c.args.from i.end i.reached)
