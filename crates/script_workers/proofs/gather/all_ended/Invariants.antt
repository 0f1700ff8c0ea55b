use Rattle.std.proofs.Common.{◌≡◌, ◌≤◌, ◌++◌, ◌+◌, length, map, vec_len}
use Rattle.std.specs.Vec.{vec_capacity}
use Rattle.std.specs.Vec.Iter.{into_iter_items, into_iter_len}
use Rattle.script_workers.specs.Gathers.{HaveEnded}
use Rattle.script_workers.proofs.gather.all_ended.Given as goal

abbrev pub invariant-loop-worker : goal.invariant-loop-worker
invariant-loop-worker g l = record {
  ended : HaveEnded g.B.Room.heap g.B.Room.terms g.B.Room.tag g.B.Room.lines (length l.yielded)
      (map g.S.Side.seen l.sides.items) l.rests.items;
  rest : l.fn.workers.items ≡ l.yielded ++ into_iter_items l.worker-iterator;
  counted : length l.yielded + into_iter_len l.worker-iterator ≡ length l.fn.workers.items;
  sides_room : vec_len l.sides + into_iter_len l.worker-iterator ≤ vec_capacity l.sides;
  rests_room : vec_len l.rests + into_iter_len l.worker-iterator ≤ vec_capacity l.rests;
}
