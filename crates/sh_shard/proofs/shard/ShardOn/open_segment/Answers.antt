use Rattle.std.proofs.Common.{◌≢◌, sym, subst}
use Rattle.sh_shard.specs.Shards.{Sharded}
use Rattle.sh_shard.proofs.Sorting.{sorted_opened}
use Rattle.sh_shard.proofs.shard.ShardOn.open_segment.Goals as goal

pub invariant_of-self-2 : goal.invariant_of-self-2
invariant_of-self-2 g c =
    let some : c.self.inside.queues.unopened ≢ 0 = subst (λ (z : Sharded). z.queues.unopened ≢ 0) (sym c.self.view_is)
    c.requires in
    sorted_opened c.self.inside.pages c.self.inside.queues c.self.invariant c.open_segment.new.self some
    c.in_ok-open_segment.ensures.ok
