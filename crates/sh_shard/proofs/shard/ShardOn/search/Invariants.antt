use Rattle.std.proofs.Common.{◌≡◌}
use Rattle.sh_shard.specs.Searches.{Searching}
use Rattle.sh_shard.proofs.shard.ShardOn.search.Given as goal

abbrev pub invariant-loop-turn : goal.invariant-loop-turn
invariant-loop-turn g l = record {
  searching : Searching l.c l._turn l.last l.fn.self l.self;
  opened : l.self.queues.opened ≡ l.opened;
}
