use Rattle.std.proofs.Common.{◌≡◌, drop, take}
use Rattle.c_exports.specs.Batches.{LoadsEach}
use Rattle.c_exports.proofs.batches.load_all.Given as goal

abbrev pub invariant-loop-at : goal.invariant-loop-at
invariant-loop-at l = record {
  does : LoadsEach (take l.at l.fn.loads) l.fn.member (take l.at l.loads) l.member;
  rest : drop l.at l.loads ≡ drop l.at l.fn.loads;
}
