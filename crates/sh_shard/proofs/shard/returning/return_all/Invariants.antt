use Rattle.std.proofs.Common.{◌≡◌, ◌≤◌}
use Rattle.sh_shard.specs.Shards.{ReturnsBelow}
use Rattle.sh_shard.specs.Returning.{SortedBut, ReturnedBelow}
use Rattle.sh_shard.proofs.shard.returning.return_all.Given as goal

abbrev pub invariant-loop-page : goal.invariant-loop-page
invariant-loop-page g l = record {
  sorted : SortedBut (λ p. l.page ≤ p) l.pages l.queues;
  opened : l.queues.opened
      ≡ l.opened;
  rising : ReturnedBelow l.page l.fn.queues l.queues;
  each : ReturnsBelow l.page l.pages l.fn.queues l.queues;
}
