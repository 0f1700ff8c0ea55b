use Rattle.std.proofs.Common.{take}
use Rattle.history_audit.proofs.WholeLemmas.{HasTaken}
use Rattle.history_audit.proofs.whole.check.Given as goal

abbrev pub invariant-loop-at : goal.invariant-loop-at
invariant-loop-at l = HasTaken l.audit l.passes l.guard_max (take l.at l.entries)
