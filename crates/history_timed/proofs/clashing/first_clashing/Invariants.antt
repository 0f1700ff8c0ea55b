use Rattle.std.proofs.Common.{take}
use Rattle.std.specs.List.{All}
use Rattle.history_timed.specs.Clashes.{ClashesWithNone}
use Rattle.history_timed.proofs.clashing.first_clashing.Given as goal

abbrev pub invariant-loop-call : goal.invariant-loop-call
invariant-loop-call l = All (ClashesWithNone l.passes l.guard_max l.calls) (take l.call-index l.call-items)
