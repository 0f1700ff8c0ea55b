use Rattle.std.proofs.Common.{◌+◌, ◌*◌, ◌≤◌, ◌∷◌, [], ap, arith, inl, inr, length, refl, subst, ◌∙◌}
use Rattle.std.specs.Prelude.{min}
use Rattle.sh_shape.specs.Places.{all_pages}
use Rattle.sh_history.specs.declared.entry.Entry.TheVariants as entry
use Rattle.sh_history.specs.declared.log.LogEntry.TheVariants.{Known}
use Rattle.sh_member.proofs.Ending.{remains_along}
use Rattle.sh_member.proofs.PlaceWalks.{ends, meets_on, reaches, skips_all, skips_none, skips_on, within}
use Rattle.sh_member.proofs.walking.next_live_into.Goals as goal

pub loop-place-init : goal.loop-place-init
loop-place-init g c = record {
  low = omega arith;
  end = c.min-place-end.ensures ∙ ap (λ n. min c.args.before n) c.heap_places.ensures.is;
  reached = inr refl;
  room = refl;
  does = skips_none g.R.Reader.layout 21 c.args.from (g.R.Reader.caller c.args.reader.now);
  remains = c.heap_places.ensures.rest;
}

pub returns-in-Some-clause-does : goal.returns-in-Some-clause-does
returns-in-Some-clause-does g c =
    let layout = g.R.Reader.layout in
    let v = g.R.Reader.caller c.args.reader.now in
    let i = c.loop-place.invariant in
    let a = g.R.Reader.caller c.loop-place.reader in
    let next = c.in-Some.next in
    let value = c.live_at.new.value in
    let place = c.loop-place.place in
    let below = within c.args.before (all_pages v.heap.shape * 48) c.min-place-end.result place i.end
    c.loop-place-test.true in
    meets_on layout 21 c.args.from place (place + 1) c.args.before next.key next.behind (length value + 5)
    (λ pass. Known (entry.Seen pass next.key value) ∷ []) (λ hs. hs) v a (g.R.Reader.caller c.live_at.new.reader)
    i.does i.low (omega arith) c.in-Some.ensures.does

pub loop-place-preserved : goal.loop-place-preserved
loop-place-preserved g c =
    let layout = g.R.Reader.layout in
    let v = g.R.Reader.caller c.args.reader.now in
    let i = c.loop-place.invariant in
    let a = g.R.Reader.caller c.loop-place.reader in
    let w = g.R.Reader.caller c.live_at.new.reader in
    let place = c.loop-place.place in
    let low = i.low in
    let below = c.loop-place-test.true in
    record {
      low = omega arith;
      end = i.end;
      room = c.in_default.ensures.does.1 ∙ i.room;
      reached = inl (let reached : place + 1 ≤ c.min-place-end.result = omega arith in reached);
      does = skips_on layout 21 c.args.from place (place + 1) v a w i.does i.low (omega arith)
          c.in_default.ensures.does.0;
      remains = remains_along layout v a w i.remains c.in_default.ensures.remains;
    }

pub returns-clause-does : goal.returns-clause-does
returns-clause-does g c =
    let layout = g.R.Reader.layout in
    let v = g.R.Reader.caller c.args.reader.now in
    let i = c.loop-place.invariant in
    let a = g.R.Reader.caller c.loop-place.reader in
    let place = c.loop-place.place in
    let places = all_pages v.heap.shape * 48 in (
      skips_all layout 21 c.args.from place c.args.before v a
          (ends c.args.before places place (subst (λ n. n ≤ place) i.end c.loop-place-test.false))
          (reaches c.args.before places c.min-place-end.result place c.args.from i.end i.reached) i.does,
      i.room,
    )
