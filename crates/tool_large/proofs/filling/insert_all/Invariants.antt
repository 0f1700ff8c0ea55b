use Rattle.std.proofs.Common.{◌≡◌, vec_len}
use Rattle.tool_large.proofs.filling.insert_all.Given as goal

abbrev pub invariant-loop-number : goal.invariant-loop-number
invariant-loop-number g l = record {
  heap : l.owner.pages.owner.heap ≡ l.initial.owner.pages.owner.heap;
  count : vec_len l.keys ≡ l.number;
}
