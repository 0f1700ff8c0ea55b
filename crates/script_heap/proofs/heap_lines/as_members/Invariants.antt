use Rattle.std.proofs.Common.{◌≡◌, ◌++◌, ◌+◌, length, map}
use Rattle.std.specs.Vec.Iter.{into_iter_items, into_iter_len}
use Rattle.script_calls.specs.Running.{as_member}
use Rattle.script_heap.proofs.heap_lines.as_members.Given as goal

abbrev pub invariant-loop-pass : goal.invariant-loop-pass
invariant-loop-pass g l = record {
  so_far : l.members.items ≡ map as_member l.yielded;
  rest : l.fn.passes.items ≡ l.yielded ++ into_iter_items l.pass-iterator;
  counted : length l.yielded + into_iter_len l.pass-iterator ≡ length l.fn.passes.items;
}
