use Rattle.std.proofs.Common.{◌≡◌, ℕ, ◌<◌, ◌%◌, ◌^◌, true, take, Some}
use Rattle.std.specs.Prelude.{slice_get, Contains, sum_by, Err}
use Rattle.tool_load.specs.declared.fault.Fault.{Fault}
use Rattle.tool_load.specs.declared.fault.Fault.TheVariants.{Late}
use Rattle.tool_load.specs.Outcomes.{saturated, operations_of, answered_of, standing_of, longest}
use Rattle.tool_bench.proofs.parting.together.Given as goal

-- the counts are those of the outcomes so far, none of which is a fault other than `Late`
abbrev pub invariant-loop-outcome : goal.invariant-loop-outcome
invariant-loop-outcome l = record {
  operations : l.all.operations ≡ saturated (sum_by operations_of (take l.outcome-index l.outcomes));
  sum : l.all.sum ≡ sum_by answered_of (take l.outcome-index l.outcomes) % 2 ^ 64;
  standing : l.all.standing ≡ saturated (sum_by standing_of (take l.outcome-index l.outcomes));
  time : l.all.nanoseconds ≡ longest (take l.outcome-index l.outcomes);
  late : l.late ≡ true → Contains l.outcomes (Err Late);
  met : (k : ℕ) (fault : Fault) → k < l.outcome-index → slice_get l.outcomes k ≡ Some (Err fault)
      → (fault ≡ Late) × (l.late ≡ true);
}
