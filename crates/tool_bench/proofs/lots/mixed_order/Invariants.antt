use Rattle.std.proofs.Common.{◌≡◌, ◌<◌, vec_len}
use Rattle.std.specs.Prelude.{All}
use Rattle.tool_bench.proofs.lots.mixed_order.Given as goal

abbrev pub invariant-loop-turn : goal.invariant-loop-turn
invariant-loop-turn l = record {
  count : vec_len l.order ≡ l._turn;
  within : All (λ place. place < l.places) l.order.items;
  next : 0 < l.places → l.place < l.places;
}
