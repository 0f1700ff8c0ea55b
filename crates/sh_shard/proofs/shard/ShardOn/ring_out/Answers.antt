use Rattle.std.proofs.Common.{subst}
use Rattle.sh_shard.specs.Pages.{HasCursor}
use Rattle.sh_shard.specs.Shards.{Sharded}
use Rattle.sh_shard.proofs.Trying.{rings_first, rings_both}
use Rattle.sh_shard.proofs.shard.ShardOn.ring_out.Goals as goal

pub returns-then-has_rings-clause-rings : goal.returns-then-has_rings-clause-rings
returns-then-has_rings-clause-rings g c = rings_first c.args.c c.read_rings-first.result c.args.self.now
    c.read_rings-first.new.self c.read_rings-first.ensures.hears c.read_rings-first.ensures.steps
    c.read_rings-first.ensures.waits
    (subst (λ (z : Sharded). HasCursor z.pages.bell.cursor) c.self.view_is c.if-has_rings.ensures)

pub returns-clause-rings : goal.returns-clause-rings
returns-clause-rings g c = rings_both c.args.c c.read_rings-first.result c.read_rings-second.result c.any_heard.result
    c.args.self.now
    c.read_rings-first.new.self c.take_bell.new.self c.read_rings-second.new.self c.any_heard.ensures
    c.read_rings-first.ensures.hears
    c.read_rings-first.ensures.steps c.take_bell.ensures.takes c.take_bell.ensures.queues
    c.read_rings-second.ensures.hears
    c.read_rings-second.ensures.steps c.read_rings-second.ensures.waits
