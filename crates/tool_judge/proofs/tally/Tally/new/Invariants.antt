use Rattle.std.proofs.Common.{◌≡◌, replicate}
use Rattle.tool_judge.proofs.tally.Tally.new.Given as goal

abbrev pub invariant-loop : goal.invariant-loop
invariant-loop l = l.pages.items ≡ replicate l.counter l.none
