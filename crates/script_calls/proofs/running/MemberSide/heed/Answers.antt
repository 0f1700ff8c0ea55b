use Rattle.script_calls.proofs.MemberLaws.{receipt_is_of, member_heeds}
use Rattle.script_calls.proofs.running.MemberSide.heed.Goals as goal

pub heed-requires : goal.heed-requires
heed-requires g c = receipt_is_of g.L.KeyLayout.layout c.args.self.now c.args.receipt c.requires

pub returns : goal.returns
returns g c = member_heeds g.L.KeyLayout.layout c.args.self.now c.heed.new.self c.args.receipt c.heed.ensures
