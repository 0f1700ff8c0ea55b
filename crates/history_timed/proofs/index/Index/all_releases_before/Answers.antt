use Rattle.std.proofs.Common.{rules}
use Rattle.history_timed.proofs.IndexLemmas.{releases_count}
use Rattle.history_timed.proofs.index.Index.all_releases_before.Goals as goal

pub returns : goal.returns
returns c =
    rw (c.below.ensures, c.begin.ensures, ← c.self.view_is) (releases_count c.self.inside.calls.now
    c.args.call.now c.self.inside.releases c.args.key (search rules) c.self.invariant.releases_are)
