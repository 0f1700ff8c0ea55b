use Rattle.std.proofs.Common.{map, take}
use Rattle.history_timed.specs.Placing.{call_of}
use Rattle.history_timed.proofs.JudgingLemmas.{HasHeard}
use Rattle.history_timed.proofs.judging.audited.Given as goal

abbrev pub invariant-loop-at : goal.invariant-loop-at
invariant-loop-at l = HasHeard l.audit l.passes l.guard_max (map call_of (take l.at-index l.placed))
