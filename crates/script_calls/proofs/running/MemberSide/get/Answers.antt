use Rattle.script_calls.proofs.MemberLaws.{member_gets}
use Rattle.script_calls.proofs.running.MemberSide.get.Goals as goal

pub returns : goal.returns
returns g c =
    let layout = g.L.KeyLayout.layout in
    let call = c.get in
    let h = member_gets layout c.args.self.now call.new.self c.args.key call.result call.ensures in
    record { does = h.0; same = h.1 }
