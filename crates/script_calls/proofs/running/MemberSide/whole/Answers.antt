use Rattle.script_calls.proofs.MemberLaws.{member_whole, member_stands, member_shape}
use Rattle.script_calls.proofs.running.MemberSide.whole.Goals as goal

pub returns : goal.returns
returns g c = record {
  tale = member_whole g.L.KeyLayout.layout c.args.self.now c.shape-known.ensures.stands;
  stands = member_stands g.L.KeyLayout.layout c.args.self.now c.shape-known.ensures.stands;
  shape = member_shape g.L.KeyLayout.layout c.args.self.now c.shape-known.ensures.stands;
}
