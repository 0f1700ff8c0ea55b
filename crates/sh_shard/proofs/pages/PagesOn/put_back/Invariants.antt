use Rattle.sh_shard.proofs.PuttingBack.{Putting}
use Rattle.sh_shard.proofs.pages.PagesOn.put_back.Given as goal

abbrev pub invariant-loop-turn : goal.invariant-loop-turn
invariant-loop-turn g l = Putting l._turn l.page l.fn.self l.self
