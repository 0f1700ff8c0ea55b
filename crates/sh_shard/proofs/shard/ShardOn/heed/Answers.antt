use Rattle.sh_shard.proofs.shard.ShardOn.heed.Goals as goal

pub returns-clause-holds : goal.returns-clause-holds
returns-clause-holds g c = c.heed.ensures.holds
