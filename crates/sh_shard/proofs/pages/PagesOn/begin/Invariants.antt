use Rattle.std.proofs.Common.{◌≡◌, length}
use Rattle.sh_shard.proofs.Beginning.{Reading}
use Rattle.sh_shard.proofs.pages.PagesOn.begin.Given as goal

abbrev pub invariant-loop-page : goal.invariant-loop-page
invariant-loop-page g l = record {
  reading : Reading g.L.KeyLayout.layout l.fn.shard l.page l.fn.owner l.owner l.states;
  all : length l.states ≡ l.count;
}
