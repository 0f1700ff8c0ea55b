use Rattle.history_timed.proofs.IndexLemmas.{gets_count}
use Rattle.history_timed.proofs.index.Index.all_gets_before.Goals as goal

pub returns : goal.returns
returns c =
    rw (c.up_to.ensures, c.unwrap_or.ensures, c.end.ensures, ← c.self.view_is) (gets_count c.self.inside.calls.now
    c.args.call.now c.self.inside.gets c.args.key c.requires c.self.invariant.gets_are)
