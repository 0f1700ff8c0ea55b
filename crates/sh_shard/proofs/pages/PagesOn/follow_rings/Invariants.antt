use Rattle.sh_shard.proofs.BellEmptying.{Following}
use Rattle.sh_shard.proofs.pages.PagesOn.follow_rings.Given as goal

abbrev pub invariant-loop-turn : goal.invariant-loop-turn
invariant-loop-turn g l = Following l._turn l.fn.self l.self
