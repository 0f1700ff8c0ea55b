use Rattle.std.proofs.Common.{◌≡◌}
use Rattle.std.specs.Vec.Iter.{into_iter_items}
use Rattle.sh_pass.specs.Passes.{AreOf}
use Rattle.sh_gather.specs.Gathering.{met_view}
use Rattle.sh_gather.proofs.gathering.met.Given as goal

abbrev pub invariant-loop-pass : goal.invariant-loop-pass
invariant-loop-pass g l = record {
  of : AreOf l.carrier.heap (into_iter_items l.pass-iterator);
  heap : l.carrier.heap ≡ l.fn.one.heap;
  tale : met_view l.carrier.view (into_iter_items l.pass-iterator) ≡ met_view l.fn.one.view l.fn.others.items;
}
