use Rattle.script_calls.proofs.MemberLaws.{member_reads}
use Rattle.script_calls.proofs.running.MemberSide.read.Goals as goal

pub returns : goal.returns
returns g c =
    let layout = g.L.KeyLayout.layout in
    let call = c.read in
    let h = member_reads layout c.args.self.now call.new.self c.args.hold.key call.result call.ensures in
    record { does = h.0; same = h.1 }
