use Rattle.std.proofs.Common.{rules}
use Rattle.history_timed.proofs.JudgingLemmas.{heard_more, refused_at}
use Rattle.history_timed.proofs.judging.audited.Goals as goal

pub loop-at-preserved : goal.loop-at-preserved
loop-at-preserved c =
    let heard = c.loop-at.invariant in
    heard_more c.loop-at.audit c.push.new.self c.args.passes c.args.guard_max c.args.placed.now c.loop-at.at-index
    c.at-item.result c.at-item.result.call.now.line c.entry-entry.result (search rules) (search rules) heard
    c.push.ensures.passes c.push.ensures.guard_max (c.entry-entry.ensures heard.lines heard.follows)
    (rw c.in_default.is at (c.in_ok-clash.ensures.taken heard.lines heard.follows))

pub returns-in-Some-clause-not_allowed : goal.returns-in-Some-clause-not_allowed
returns-in-Some-clause-not_allowed c =
    let heard = c.loop-at.invariant in
    refused_at c.loop-at.audit c.args.passes c.args.guard_max c.args.placed.now c.loop-at.at-index c.at-item.result
    c.entry-entry.result c.in-Some.clash (search rules) (search rules) heard
    (c.entry-entry.ensures heard.lines heard.follows)
    (rw c.in-Some.is at (c.in_ok-clash.ensures.judged heard.lines heard.follows))
