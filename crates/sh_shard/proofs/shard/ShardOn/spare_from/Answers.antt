use Rattle.std.proofs.Common.{ap, ◌∙◌, subst, arith}
use Rattle.sh_shard.specs.Shards.{Sharded, SortedPages}
use Rattle.sh_shard.proofs.Preparing.{none_spare, spare_next}
use Rattle.sh_shard.proofs.shard.ShardOn.spare_from.Goals as goal

pub loop-page-init : goal.loop-page-init
loop-page-init g c = λ p below spare. c.requires p below spare.whole

pub loop-page-preserved : goal.loop-page-preserved
loop-page-preserved g c = spare_next c.args.class c.loop-page.page c.args.self.now c.loop-page.invariant
    c.if-is_spare.ensures

pub returns : goal.returns
returns g c = none_spare c.args.class c.opened-opened.result c.args.self.now
    (subst (λ (z : Sharded). SortedPages z.pages z.queues) c.self.view_is c.self.invariant)
    (c.opened-opened.ensures.opened ∙ ap (λ (z : Sharded). z.queues.opened) c.self.view_is)
    (λ p below. c.loop-page.invariant p (let l = c.loop-page-test.false in omega arith))
