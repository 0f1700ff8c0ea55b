use Rattle.std.proofs.Common.{◌≡◌, ℕ, ◌<◌, ◌≤◌, ◌+◌, get_or, length, vec_len}
use Rattle.std.specs.Vec.{vec_capacity}
use Rattle.std.specs.Vec.Iter.{into_iter_items, into_iter_len}
use Rattle.sh_pool.specs.PoolSlots.{AreLast, Home}
use Rattle.sh_pool.proofs.pool.pool_slots_for.Given as goal

abbrev pub invariant-loop-state : goal.invariant-loop-state
invariant-loop-state g l = record {
  heap : l.home.0 ≡ l.fn.heap;
  built : (n : ℕ) (d : Home) → n < length l.pool_slots.items → get_or l.pool_slots.items n d ≡ (l.fn.heap, n);
  left : AreLast l.fn.heap l.fn.heap.shape.passes (into_iter_items l.state-iterator);
  count : length l.pool_slots.items + length (into_iter_items l.state-iterator) ≡ length l.fn.states.items;
  space : vec_len l.pool_slots + into_iter_len l.state-iterator ≤ vec_capacity l.pool_slots;
}
