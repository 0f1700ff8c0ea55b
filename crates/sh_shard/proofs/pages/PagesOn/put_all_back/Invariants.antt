use Rattle.sh_shard.proofs.PuttingBack.{Returning}
use Rattle.sh_shard.proofs.pages.PagesOn.put_all_back.Given as goal

abbrev pub invariant-loop-page : goal.invariant-loop-page
invariant-loop-page g l = Returning l.page l.fn.self l.self
