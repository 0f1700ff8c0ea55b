use Rattle.sh_pass.specs.Owners.{Aside}
use Rattle.sh_shard.proofs.Booking.{insert_aside, insert_shard, remains_aside}
use Rattle.sh_shard.proofs.shard.ShardOn.insert.Goals as goal

pub returns-clause-stays : goal.returns-clause-stays
returns-clause-stays g c =
    let layout = g.L.KeyLayout.layout in
    let aside : Aside c.args.self.now.pages.owner c.insert_in-answer.new.self.pages.owner = insert_aside layout _
    c.args.value.now c.args.self.now c.insert_in-answer.new.self c.insert_in-answer.result
    c.insert_in-answer.ensures.serves in
    record {
      holds = c.standing-known-2.ensures;
      shard = insert_shard layout _ c.args.value.now c.args.self.now c.insert_in-answer.new.self
          c.insert_in-answer.result c.insert_in-answer.ensures.serves;
      same = aside.same;
      remains = remains_aside layout c.args.self.now c.insert_in-answer.new.self c.standing-known.ensures
          c.standing-known-2.ensures aside;
    }
