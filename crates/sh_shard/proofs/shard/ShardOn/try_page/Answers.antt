use Rattle.std.proofs.Common.{◌≡◌, true, sym, subst}
use Rattle.sh_queue.specs.Numbers.{has_number}
use Rattle.sh_queue.specs.Queues.{class_queue}
use Rattle.sh_shard.specs.Shards.{Sharded}
use Rattle.sh_shard.proofs.Sorting.{sorted_tried}
use Rattle.sh_shard.proofs.shard.ShardOn.try_page.Goals as goal

pub invariant_of-self : goal.invariant_of-self
invariant_of-self g c =
    let here : has_number c.args.page (class_queue c.self.inside.queues c.args.c)
    ≡ true = subst (λ (z : Sharded). has_number c.args.page (class_queue z.queues c.args.c) ≡ true)
    (sym c.self.view_is) c.requires.here in
    sorted_tried c.self.inside.pages c.try_page.new.self c.self.inside.queues c.args.c c.args.page _ c.self.invariant
    here _ c.try_page.result c.try_page.ensures.tried
