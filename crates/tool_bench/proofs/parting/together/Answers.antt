use Rattle.std.proofs.Common.{◌≡◌, ◌∙◌, ap, sym, ℕ, arith, rules}
use Rattle.std.proofs.lemmas.List.{get_or_default}
use Rattle.std.specs.Prelude.{Err}
use Rattle.tool_load.specs.declared.outcome.Outcome.{Outcome}
use Rattle.tool_load.specs.declared.fault.Fault.TheVariants.{Late}
use Rattle.tool_load.specs.Outcomes.{operations_of, answered_of, standing_of, time_of}
use Rattle.tool_bench.proofs.Sums.{count_next, sum_next, time_next, no_fault, one_fault, met_more}
use Rattle.tool_bench.proofs.parting.together.Goals as goal
use Rattle.tool_bench.proofs.parting.together.Goals.{in-Ok, in-Err-Late}

pub loop-outcome-preserved : goal.loop-outcome-preserved
loop-outcome-preserved c =
    let outcomes = c.args.outcomes.now in
    let i : ℕ = c.loop-outcome.outcome-index in
    let before = c.loop-outcome.all in
    let after = c.match-outcome.all in
    let inv = c.loop-outcome.invariant in
    let within = c.loop-outcome-test.true in
    elim c.match-outcome.branch [
      | in-Ok w ↦ record {
        operations = count_next operations_of outcomes i _ before.operations after.operations
            w.in-Ok.outcome.operations within inv.operations (ap operations_of w.in-Ok.is)
            (ap (λ (o : Outcome). o.operations) w.all-is ∙ w.beside-all.ensures.counts.operations);
        sum = sum_next answered_of outcomes i _ before.sum after.sum w.in-Ok.outcome.sum within inv.sum
            (ap answered_of w.in-Ok.is) (ap (λ (o : Outcome). o.sum) w.all-is ∙ w.beside-all.ensures.counts.sum);
        standing = count_next standing_of outcomes i _ before.standing after.standing w.in-Ok.outcome.standing within
            inv.standing (ap standing_of w.in-Ok.is)
            (ap (λ (o : Outcome). o.standing) w.all-is ∙ w.beside-all.ensures.counts.standing);
        time = time_next outcomes i _ before.nanoseconds after.nanoseconds w.in-Ok.outcome.nanoseconds within inv.time
            (ap time_of w.in-Ok.is) (ap (λ (o : Outcome). o.nanoseconds) w.all-is ∙ w.beside-all.ensures.time);
        late = λ e. inv.late (sym w.late-is ∙ e);
        met = met_more outcomes i c.loop-outcome.late c.match-outcome.late inv.met (λ e. w.late-is ∙ e)
            (λ fault got. absurd (no_fault outcomes i _ w.in-Ok.outcome fault within w.in-Ok.is got));
      }
      | in-Err-Late w ↦
          let is_late : w.in-Err-Late.field-0 ≡ Late = search rules in
          let same_operations = ap (λ (o : Outcome). o.operations) w.all-is in
          let same_sum = ap (λ (o : Outcome). o.sum) w.all-is in
          let same_standing = ap (λ (o : Outcome). o.standing) w.all-is in
          let same_time = ap (λ (o : Outcome). o.nanoseconds) w.all-is in
          let operations_are = inv.operations in
          let sum_is = inv.sum in
          let standing_are = inv.standing in
          record {
            operations = count_next operations_of outcomes i _ before.operations after.operations 0 within
                inv.operations (ap operations_of w.in-Err-Late.is) (omega (arith, same_operations, operations_are));
            sum = sum_next answered_of outcomes i _ before.sum after.sum 0 within inv.sum
                (ap answered_of w.in-Err-Late.is) (omega (arith, same_sum, sum_is));
            standing = count_next standing_of outcomes i _ before.standing after.standing 0 within inv.standing
                (ap standing_of w.in-Err-Late.is) (omega (arith, same_standing, standing_are));
            time = time_next outcomes i _ before.nanoseconds after.nanoseconds 0 within inv.time
                (ap time_of w.in-Err-Late.is) (omega (arith, same_time));
            late = λ _. (i, within, get_or_default outcomes i (Err Late) _ within ∙ w.in-Err-Late.is ∙ ap Err is_late);
            met = met_more outcomes i c.loop-outcome.late c.match-outcome.late inv.met (λ _. w.late-is)
                (λ fault got. (
                  one_fault outcomes i _ w.in-Err-Late.field-0 fault within w.in-Err-Late.is got ∙ is_late,
                  w.late-is,
                ));
          }
    ]
