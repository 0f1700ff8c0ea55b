use Rattle.std.proofs.Common.{◌≡◌, ◌≤◌, ◌++◌, ◌+◌, length, vec_len}
use Rattle.std.specs.Vec.{vec_capacity}
use Rattle.std.specs.Vec.Iter.{into_iter_items, into_iter_len}
use Rattle.script_calls.specs.Parts.{passes_below}
use Rattle.script_workers.proofs.threads.workers.Given as goal

abbrev pub invariant-loop-side : goal.invariant-loop-side
invariant-loop-side g l = record {
  made : l.all.items ≡ passes_below (length l.yielded);
  long : vec_len l.all ≡ length l.yielded;
  space : vec_len l.all + into_iter_len l.side-iterator ≤ vec_capacity l.all;
  rest : l.fn.sides.items ≡ l.yielded ++ into_iter_items l.side-iterator;
  counted : length l.yielded + into_iter_len l.side-iterator ≡ length l.fn.sides.items;
}
