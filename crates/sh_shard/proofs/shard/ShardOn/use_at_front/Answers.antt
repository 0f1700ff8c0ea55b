use Rattle.std.proofs.Common.{◌≡◌, ◌<◌, Some, slice_get, ap, ◌∙◌, sym, subst}
use Rattle.sh_queue.specs.Queues.{class_queue}
use Rattle.sh_shard.specs.Shards.{Sharded, SortedPages}
use Rattle.sh_shard.proofs.Searching.{front_has}
use Rattle.sh_shard.proofs.Preparing.{used_at_front}
use Rattle.sh_shard.proofs.shard.ShardOn.use_at_front.Goals as goal

pub use_page-requires-clause-here : goal.use_page-requires-clause-here
use_page-requires-clause-here g c = front_has c.args.c c.in-Some.page c.args.self.now.queues
    (ap (λ (z : Sharded). slice_get (class_queue z.queues c.args.c) 0) (sym c.self.view_is)
    ∙ (sym c.front.ensures.front ∙ c.in-Some.is))

pub returns-clause-used : goal.returns-clause-used
returns-clause-used g c =
    let front : slice_get (class_queue c.args.self.now.queues c.args.c) 0
    ≡ Some c.in-Some.page = ap (λ (z : Sharded). slice_get (class_queue z.queues c.args.c) 0) (sym c.self.view_is)
    ∙ (sym c.front.ensures.front ∙ c.in-Some.is) in
    let inside : c.in-Some.page < c.args.self.now.queues.opened = subst
    (λ (z : Sharded). c.in-Some.page < z.queues.opened) c.self.view_is c.in-Some.ensures.opened in
    let sorted : SortedPages c.args.self.now.pages c.args.self.now.queues = subst
    (λ (z : Sharded). SortedPages z.pages z.queues) c.self.view_is c.self.invariant in
    used_at_front g.L.KeyLayout.layout c.args.c c.in-Some.page c.args.value.now c.args.self.now c.use_page.new.self
    c.use_page.result sorted front inside c.use_page.ensures.used c.use_page.ensures.key c.use_page.ensures.first
    c.use_page.ensures.queues
    c.use_page.ensures.steps
