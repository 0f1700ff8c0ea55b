use Rattle.history_timed.proofs.IndexLemmas.{gets_by_count}
use Rattle.history_timed.proofs.index.Index.gets_before.Goals as goal

pub returns : goal.returns
returns c =
    rw (c.up_to.ensures, c.unwrap_or.ensures, c.end.ensures, ← c.self.view_is) (gets_by_count c.self.inside.calls.now
    c.args.call.now c.self.inside.gets_by c.args.key c.args.pass c.requires c.self.invariant.gets_by_are)
