use Rattle.std.proofs.Common.{arith}
use Rattle.sh_shard.proofs.BellEmptying.{following_none, following_more, followed_to, never_past}
use Rattle.sh_shard.proofs.pages.PagesOn.follow_rings.Goals as goal

pub loop-turn-init : goal.loop-turn-init
loop-turn-init g c = following_none c.args.self.now

pub returns-in_default : goal.returns-in_default
returns-in_default g c = followed_to c.loop-turn._turn c.args.self.now c.loop-turn.self c.follow_bell.new.self
    c.loop-turn.invariant c.in_default.ensures

pub loop-turn-preserved : goal.loop-turn-preserved
loop-turn-preserved g c = following_more c.loop-turn._turn c.in-Some._page c.args.self.now c.loop-turn.self
    c.follow_bell.new.self c.loop-turn.invariant c.in-Some.ensures

pub returns : goal.returns
returns g c = never_past c.loop-turn._turn c.args.self.now c.loop-turn.self c.loop-turn.invariant
    (let e = c.count-count.ensures.count in let z = c.loop-turn-test.false in omega arith)
