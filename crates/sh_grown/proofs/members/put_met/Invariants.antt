use Rattle.std.proofs.Common.{◌≡◌, ◌<◌}
use Rattle.std.specs.Vec.{vec_capacity, vec_len}
use Rattle.sh_grown.specs.Callers.{met_in}
use Rattle.sh_grown.proofs.members.put_met.Given as goal

abbrev pub invariant-loop-place : goal.invariant-loop-place
invariant-loop-place l = record {
  count : vec_len l.members ≡ l._place;
  same : met_in l.chunk l.one l.members.items ≡ met_in l.chunk l.one l.initial.members.items;
  room : l.chunk < vec_capacity l.members;
}
