use Rattle.sh_shard.proofs.PageEmptying.{Emptying}
use Rattle.sh_shard.proofs.pages.PagesOn.empty_pages.Given as goal

abbrev pub invariant-loop-page : goal.invariant-loop-page
invariant-loop-page g l = Emptying l.page l.fn.self l.self
