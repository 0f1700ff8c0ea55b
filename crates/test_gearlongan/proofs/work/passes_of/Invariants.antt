use Rattle.std.specs.Vec.Iter.{into_iter_items}
use Rattle.gearlongan.specs.Passes.{AreOf}
use Rattle.test_gearlongan.specs.Works.{AllBackAt}
use Rattle.test_gearlongan.proofs.work.passes_of.Given as goal

abbrev pub invariant-loop-done : goal.invariant-loop-done
invariant-loop-done l = record {
  of : AreOf l.heap l.passes.items;
  left : AllBackAt l.heap (into_iter_items l.done-iterator);
}
