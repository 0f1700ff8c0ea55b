use Rattle.sh_shard.proofs.Preparing.{elsewhere_refused, elsewhere_stored, prepared_has_slot}
use Rattle.sh_shard.proofs.shard.ShardOn.insert_in_another.Goals as goal

pub returns-in-Err-clause-inserts : goal.returns-in-Err-clause-inserts
returns-in-Err-clause-inserts g c = elsewhere_refused g.L.KeyLayout.layout c.args.c c.args.value.now c.args.self.now
    c.give_page.new.self c.in-Err.refusal c.in-Err.ensures.serves

pub returns-in-Some-clause-inserts : goal.returns-in-Some-clause-inserts
returns-in-Some-clause-inserts g c = elsewhere_stored g.L.KeyLayout.layout c.args.c c.args.value.now c.in-Ok._page
    c.in-Some.key c.args.self.now c.give_page.new.self c.use_at_front.new.self c.in-Ok.ensures.serves
    c.in-Some.ensures.used

pub unreachable-requires : goal.unreachable-requires
unreachable-requires g c = prepared_has_slot c.args.c c.in-Ok._page c.args.self.now c.give_page.new.self
    c.requires.class c.in-Ok.ensures.serves c.in-None.ensures.used.1
