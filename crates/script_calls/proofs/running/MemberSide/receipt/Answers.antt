use Rattle.std.proofs.Common.{ap}
use Rattle.script_calls.specs.Running.{seen_of_member}
use Rattle.script_calls.proofs.MemberLaws.{member_receipt}
use Rattle.script_calls.proofs.running.MemberSide.receipt.Goals as goal

pub returns : goal.returns
returns g c = record {
  tells = member_receipt g.L.KeyLayout.layout c.args.self.now c.receipt.result c.receipt.ensures.tells;
  same = ap (seen_of_member g.L.KeyLayout.layout) c.receipt.ensures.same;
}
