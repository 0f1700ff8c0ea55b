use Rattle.script_calls.proofs.MemberLaws.{member_leaves}
use Rattle.script_calls.proofs.running.MemberSide.leave.Goals as goal

pub returns : goal.returns
returns g c =
    let layout = g.L.KeyLayout.layout in
    let call = c.leave in
    let h = member_leaves layout c.args.self.now call.new.self call.result call.ensures.serves in
    record { does = h.0; same = h.1 }
