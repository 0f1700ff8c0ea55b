use Rattle.std.proofs.Common.{◌≡◌, ◌++◌, ◌+◌, length, map}
use Rattle.std.specs.Option.{option_map}
use Rattle.std.specs.List.{All}
use Rattle.std.specs.Vec.Iter.{into_iter_items, into_iter_len}
use Rattle.script_calls.specs.Meeting.{CarriesTale, CarriesOrders, CarriesEnd, OwnsNone, tales_told, orders_of}
use Rattle.script_calls.specs.Meeting.{AllOfHeap, IsShardless}
use Rattle.script_calls.proofs.meeting.met.Given as goal

abbrev pub invariant-loop-side : goal.invariant-loop-side
invariant-loop-side g l = record {
  carries : CarriesTale g.at.0 g.at.1 (option_map g.S.Side.seen l.carrier) (tales_told (map g.S.Side.seen l.yielded));
  heard : CarriesOrders (option_map g.S.Side.seen l.carrier) (orders_of (map g.S.Side.seen l.yielded));
  none : OwnsNone (option_map g.S.Side.seen l.carrier);
  own : All (CarriesEnd (option_map g.S.Side.seen l.carrier)) (map g.S.Side.seen l.yielded);
  of : AllOfHeap g.at.0 g.at.1 (map g.S.Side.seen (into_iter_items l.side-iterator));
  left : All IsShardless (map g.S.Side.seen (into_iter_items l.side-iterator));
  rest : l.fn.sides.items ≡ l.yielded ++ into_iter_items l.side-iterator;
  counted : length l.yielded + into_iter_len l.side-iterator ≡ length l.fn.sides.items;
}
