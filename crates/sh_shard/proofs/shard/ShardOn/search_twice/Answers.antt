use Rattle.std.proofs.Common.{Bool, length, subst}
use Rattle.sh_shard.specs.Searches.{RingsOut}
use Rattle.sh_shard.proofs.Trying.{tried_once, looked_once, looked_again, looked_in}
use Rattle.sh_shard.proofs.shard.ShardOn.search_twice.Goals as goal

pub returns-in-Some-clause-looked : goal.returns-in-Some-clause-looked
returns-in-Some-clause-looked g c = looked_once g.L.KeyLayout.layout c.args.c c.in-Some.key c.args.value.now
    c.args.self.now c.search.new.self c.in-Some.ensures.searched

pub returns-then-not-ring_out-clause-looked : goal.returns-then-not-ring_out-clause-looked
returns-then-not-ring_out-clause-looked g c =
    let P : Bool → Type 0 = λ b. RingsOut c.args.c b c.search.new.self c.ring_out.new.self in
    tried_once c.args.c c.args.self.now c.search.new.self c.ring_out.new.self c.in_default.ensures.searched
    c.ring_out.ensures.sorted (subst P c.if-not-ring_out.true c.ring_out.ensures.rings)

pub returns-clause-looked : goal.returns-clause-looked
returns-clause-looked g c = looked_again g.L.KeyLayout.layout c.args.c c.args.value.now c.ring_out.result
    c.args.self.now c.search.new.self c.ring_out.new.self c.search-2.new.self c.search-2.result
    c.if-not-ring_out.false c.in_default.ensures.searched c.ring_out.ensures.sorted
    c.ring_out.ensures.sorted.once c.ring_out.ensures.rings c.search-2.ensures.searched

pub returns-clause-steps : goal.returns-clause-steps
returns-clause-steps g c = looked_in c.args.c (length c.args.value.now) c.ring_out.result c.args.self.now
    c.search.new.self c.ring_out.new.self c.search-2.new.self c.search-2.result c.in_default.ensures.searched
    c.ring_out.ensures.rings c.search-2.ensures.steps
