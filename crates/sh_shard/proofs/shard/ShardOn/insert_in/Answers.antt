use Rattle.std.proofs.Common.{length, subst}
use Rattle.sh_shard.specs.Shards.{Sharded, InsertServes}
use Rattle.sh_shard.specs.Bounds.{InsertIsBounded}
use Rattle.sh_shard.proofs.Preparing.{not_quick, served_at_front}
use Rattle.sh_shard.proofs.shard.ShardOn.insert_in.Goals as goal

pub returns-in-Some-clause-serves : goal.returns-in-Some-clause-serves
returns-in-Some-clause-serves g c = served_at_front g.L.KeyLayout.layout c.args.c c.in-Some.key
    c.args.value.now c.args.self.now c.use_at_front.new.self c.in-Some.ensures.used

pub returns-clause-serves : goal.returns-clause-serves
returns-clause-serves g c = subst (λ (z : Sharded). InsertServes g.L.KeyLayout.layout c.args.c c.args.value.now z
    c.insert_slowly.result c.insert_slowly.new.self) c.in_default.ensures.used.0 c.insert_slowly.ensures.serves

pub returns-clause-quick : goal.returns-clause-quick
returns-clause-quick g c = λ quick. not_quick c.args.c c.args.self.now c.in_default.ensures.used.1 quick

pub returns-clause-bounded : goal.returns-clause-bounded
returns-clause-bounded g c = subst (λ (z : Sharded). InsertIsBounded (length c.args.value.now) z
    c.insert_slowly.new.self) c.in_default.ensures.used.0 c.insert_slowly.ensures.bounded
