use Rattle.std.proofs.Common.{rules}
use Rattle.history_timed.proofs.IndexLemmas.{releases_by_count}
use Rattle.history_timed.proofs.index.Index.releases_before.Goals as goal

pub returns : goal.returns
returns c =
    rw (c.below.ensures, c.begin.ensures, ← c.self.view_is) (releases_by_count c.self.inside.calls.now
    c.args.call.now c.self.inside.releases_by c.args.key c.args.pass (search rules) c.self.invariant.releases_by_are)
