use Rattle.std.proofs.Common.{◌≡◌, ◌+◌, ◌-◌, ◌≤◌, ◌++◌, length, replicate}
use Rattle.std.specs.Vec.{vec_capacity}
use Rattle.sh_states.specs.States.{blank_state}
use Rattle.sh_states.proofs.states.changing.write_more.Given as goal

abbrev pub invariant-loop-next : goal.invariant-loop-next
invariant-loop-next l = record {
  longer : l.written.items ≡ l.fn.written.items ++ replicate (l._next - length l.fn.written.items) blank_state;
  from : length l.fn.written.items ≤ l._next;
  to : l._next - length l.fn.written.items ≤ l.page + 1 - length l.fn.written.items;
  capacity : vec_capacity l.written ≡ vec_capacity l.fn.written;
}
