use Rattle.script_calls.proofs.CallLemmas.{too_long}
use Rattle.script_calls.proofs.line.insert.Goals as goal

pub returns-in-Err-clause-does : goal.returns-in-Err-clause-does
returns-in-Err-clause-does g c =
    let v = g.S.Side.seen c.args.side.now in
    too_long v.terms c.args.tag v.pass v.part c.args.words.now c.in-Err.refusal c.in-Err.ensures.too_long.0
    c.in-Err.ensures.too_long.1
