use Rattle.std.proofs.Common.{take}
use Rattle.std.specs.List.{All}
use Rattle.history_timed.specs.Clashes.{ClashesForNone}
use Rattle.history_timed.proofs.clashing.first_clash.Given as goal

abbrev pub invariant-loop-why : goal.invariant-loop-why
invariant-loop-why l = All (ClashesForNone l.passes l.guard_max l.calls l.call) (take l.why-index l.reasons)
