use Rattle.script_calls.proofs.MemberLaws.{member_removes}
use Rattle.script_calls.proofs.running.MemberSide.remove.Goals as goal

pub returns : goal.returns
returns g c =
    let layout = g.L.KeyLayout.layout in
    let call = c.remove in
    let h = member_removes layout c.args.self.now call.new.self c.args.key call.result call.ensures in
    record { does = h.0; same = h.1 }
