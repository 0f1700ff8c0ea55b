use Rattle.sh_shard.proofs.RemoteLaws.{CollectedBelow}
use Rattle.sh_shard.proofs.pages.PagesOn.collect_pages.Given as goal

abbrev pub invariant-loop-page : goal.invariant-loop-page
invariant-loop-page g l = CollectedBelow l.page l.fn.self l.self
