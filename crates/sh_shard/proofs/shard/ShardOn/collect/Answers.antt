use Rattle.std.proofs.Common.{subst}
use Rattle.sh_shard.specs.RemoteFrees.{CollectServes}
use Rattle.sh_shard.proofs.RemoteLaws.{collects_all}
use Rattle.sh_shard.proofs.shard.ShardOn.collect.Goals as goal

pub returns-clause-serves : goal.returns-clause-serves
returns-clause-serves g c = subst (λ o. CollectServes o (record {
  pages = c.collect_pages.new.self;
  queues = c.return_all.new.queues;
})) c.self.view_is (collects_all c.self.inside.pages c.empty_bell.new.self c.collect_pages.new.self
    c.self.inside.queues c.return_all.new.queues c.empty_bell.ensures.through c.empty_bell.ensures.bell
    c.empty_bell.ensures.steps c.collect_pages.ensures c.return_all.ensures.rising c.return_all.ensures.each)
