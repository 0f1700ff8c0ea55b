use Rattle.std.proofs.Common.{◌≤◌, vec_capacity, vec_len}
use Rattle.sh_whole.specs.Homes.{AreCalled}
use Rattle.sh_whole.proofs.calling.call_all.Given as goal

-- there are at most as many passes as pool slots that were looked at, and room for one from each of the others
abbrev pub invariant-loop-number : goal.invariant-loop-number
invariant-loop-number g l = record {
  called : AreCalled l.pool l.passes.items l.pool_slots.items;
  few : vec_len l.passes ≤ l.number;
  room : l.number-end ≤ vec_capacity l.passes;
  room_too : l.number-end ≤ vec_capacity l.pool_slots;
}
