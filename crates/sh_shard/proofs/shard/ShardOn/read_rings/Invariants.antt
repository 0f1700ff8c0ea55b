use Rattle.std.proofs.Common.{◌≡◌, ◌+◌, ◌≤◌}
use Rattle.sh_shard.specs.Pages.{armed_pages, StepsForRings}
use Rattle.sh_shard.specs.Searches.{ReadsRings}
use Rattle.sh_shard.proofs.shard.ShardOn.read_rings.Given as goal

abbrev pub invariant-loop-turn : goal.invariant-loop-turn
invariant-loop-turn g l = record {
  hears : ReadsRings l.c l.read l.fn.self l.self;
  met : l.self.pages.bell.met ≡ l.fn.self.pages.bell.met;
  armed : l._turn + armed_pages l.self.pages ≤ l.count;
  steps : StepsForRings 0 l.fn.self.pages l.self.pages;
}
