use Rattle.std.proofs.Common.{◌≡◌, ◌≤◌, ◌+◌, map, vec_len}
use Rattle.std.specs.Vec.{vec_capacity}
use Rattle.std.specs.Vec.Iter.{into_iter_len}
use Rattle.script_workers.specs.Promises.{promised}
use Rattle.script_workers.proofs.run.fn.run_all.scope.Given as goal

abbrev pub invariant-loop-worker : goal.invariant-loop-worker
invariant-loop-worker g l = record {
  started : map promised l.handles.items ≡ l.yielded;
  space : vec_len l.handles + into_iter_len l.worker-iterator ≤ vec_capacity l.handles;
  joins : vec_len l.handles + into_iter_len l.worker-iterator ≤ vec_capacity l.all;
}
