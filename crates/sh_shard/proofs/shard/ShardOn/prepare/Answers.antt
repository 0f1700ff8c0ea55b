use Rattle.sh_pass.specs.Owners.{Aside}
use Rattle.sh_shard.proofs.Booking.{prepare_aside, prepare_shard, remains_aside}
use Rattle.sh_shard.proofs.Preparing.{prepare_in}
use Rattle.sh_shard.proofs.shard.ShardOn.prepare.Goals as goal

pub returns-clause-stays : goal.returns-clause-stays
returns-clause-stays g c =
    let aside : Aside c.args.self.now.pages.owner c.give_page-answer.new.self.pages.owner = prepare_aside c.args.class
    c.args.self.now c.give_page-answer.new.self c.give_page-answer.result c.give_page-answer.ensures.serves in
    record {
      holds = c.standing-known-2.ensures;
      shard = prepare_shard c.args.class c.args.self.now c.give_page-answer.new.self c.give_page-answer.result
          c.give_page-answer.ensures.serves;
      same = aside.same;
      remains = remains_aside g.L.KeyLayout.layout c.args.self.now c.give_page-answer.new.self c.standing-known.ensures
          c.standing-known-2.ensures aside;
    }

pub returns-clause-bounded : goal.returns-clause-bounded
returns-clause-bounded g c = prepare_in c.args.class c.args.self.now c.give_page-answer.new.self
    c.give_page-answer.result c.give_page-answer.ensures.serves
