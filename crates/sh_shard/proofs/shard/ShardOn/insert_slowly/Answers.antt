use Rattle.sh_shard.proofs.Preparing.{served_after, served_in}
use Rattle.sh_shard.proofs.shard.ShardOn.insert_slowly.Goals as goal

pub returns-clause-serves : goal.returns-clause-serves
returns-clause-serves g c = served_after _ c.args.c _ c.args.self.now c.search_twice.new.self
    c.insert_in_another.new.self
    c.requires.class c.in_default.ensures.looked c.insert_in_another.ensures.sorted
    c.insert_in_another.ensures.sorted.once c.insert_in_another.result c.insert_in_another.ensures.inserts

pub returns-clause-bounded : goal.returns-clause-bounded
returns-clause-bounded g c = served_in g.L.KeyLayout.layout c.args.c c.args.value.now c.args.self.now
    c.search_twice.new.self
    c.insert_in_another.new.self c.insert_in_another.result c.in_default.ensures.looked
    c.insert_in_another.ensures.inserts
