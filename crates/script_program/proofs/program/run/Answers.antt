use Rattle.std.proofs.Common.{inr}
use Rattle.script_program.proofs.program.run.Goals as goal

pub returns-in-Err-replay-clause-ends : goal.returns-in-Err-replay-clause-ends
returns-in-Err-replay-clause-ends g c text e =
    let fails = c.in-Err-replay.ensures.ends text e in
    inr (record {
      mode = c.in-Ok.chosen.0;
      accounts = c.in-Ok.chosen.1;
      said = c.in-Ok.ensures.ok;
      ends = inr (record {
        fault = c.in-Err-replay.fault;
        is = c.report.ensures;
        may = fails.may;
        answers = fails.answers;
        stops = fails.stops;
      });
    })
