use Rattle.std.proofs.Common.{take}
use Rattle.history_timed.specs.Verdicts.{AreFindings}
use Rattle.history_timed.proofs.finding.findings.Given as goal

abbrev pub invariant-loop-call : goal.invariant-loop-call
invariant-loop-call l = AreFindings l.passes l.guard_max l.calls (take l.call-index l.calls) l.found.items
