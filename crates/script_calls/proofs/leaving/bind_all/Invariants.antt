use Rattle.std.proofs.Common.{◌≡◌, ◌++◌, ◌+◌, length, map}
use Rattle.std.specs.Vec.Iter.{into_iter_items, into_iter_len}
use Rattle.script_calls.specs.Leaving.{BoundSoFar}
use Rattle.script_calls.specs.Meeting.{AllOfHeap}
use Rattle.script_calls.proofs.leaving.bind_all.Given as goal

abbrev pub invariant-loop-side : goal.invariant-loop-side
invariant-loop-side g l = record {
  bound : BoundSoFar g.at.0 g.at.1 (map g.S.Side.seen l.yielded) l.bundle;
  of : AllOfHeap g.at.0 g.at.1 (map g.S.Side.seen (into_iter_items l.side-iterator));
  rest : l.fn.sides.items ≡ l.yielded ++ into_iter_items l.side-iterator;
  counted : length l.yielded + into_iter_len l.side-iterator ≡ length l.fn.sides.items;
}
