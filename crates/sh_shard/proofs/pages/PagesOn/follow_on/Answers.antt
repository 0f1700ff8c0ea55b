use Rattle.sh_shard.proofs.Working.{too_many}
use Rattle.sh_shard.proofs.pages.PagesOn.follow_on.Goals as goal

pub returns : goal.returns
returns g c = too_many c.args.page c.loop-turn._turn c.loop-turn.self c.loop-turn.invariant.more c.loop-turn-test.false
