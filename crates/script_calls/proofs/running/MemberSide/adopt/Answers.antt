use Rattle.script_calls.proofs.MemberLaws.{member_adopts}
use Rattle.script_calls.proofs.running.MemberSide.adopt.Goals as goal

pub returns : goal.returns
returns g c =
    let layout = g.L.KeyLayout.layout in
    let call = c.adopt in
    let h = member_adopts layout c.args.self.now call.new.self c.args.shard call.result call.ensures.serves
    call.ensures.bounded in
    record { does = h.0; same = h.1 }
