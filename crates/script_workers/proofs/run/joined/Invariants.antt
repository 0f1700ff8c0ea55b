use Rattle.std.proofs.Common.{◌≡◌, ◌≤◌, ◌+◌, map, vec_len}
use Rattle.std.specs.Vec.{vec_capacity}
use Rattle.std.specs.Vec.Iter.{into_iter_len}
use Rattle.script_workers.specs.Promises.{promised}
use Rattle.script_workers.proofs.run.joined.Given as goal

abbrev pub invariant-loop-handle : goal.invariant-loop-handle
invariant-loop-handle g l = record {
  joined : l.all.items ≡ map promised l.yielded;
  space : vec_len l.all + into_iter_len l.handle-iterator ≤ vec_capacity l.all;
}
