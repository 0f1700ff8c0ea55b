use Rattle.std.proofs.Common.{◌≡◌, ◌-◌, ◌*◌, ◌≤◌}
use Rattle.tool_load.specs.Plans.{filled_up_to}
use Rattle.tool_load.proofs.plan.pages_of_mixed.Given as goal

abbrev pub invariant-loop-words : goal.invariant-loop-words
invariant-loop-words l = record {
  filled : l.pages ≡ filled_up_to (l.words - 1) l.each;
  few : l.pages ≤ l.words * 30000000;
}
