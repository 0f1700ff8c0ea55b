use Rattle.sh_shard.proofs.PuttingBack.{putting_none, put_done}
use Rattle.sh_shard.proofs.pages.PagesOn.put_back.Goals as goal

pub loop-turn-init : goal.loop-turn-init
loop-turn-init g c = putting_none c.args.page c.args.self.now

pub returns-then-not-put_next : goal.returns-then-not-put_next
returns-then-not-put_next g c = put_done c.loop-turn._turn c.args.page c.args.self.now c.loop-turn.self
    c.put_next.new.self c.loop-turn.invariant c.if-not-put_next.ensures.0 c.if-not-put_next.ensures.1
