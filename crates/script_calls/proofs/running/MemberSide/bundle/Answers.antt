use Rattle.std.proofs.Common.{ap}
use Rattle.script_calls.specs.Running.{seen_of_member}
use Rattle.script_calls.proofs.MemberLaws.{member_opens}
use Rattle.script_calls.proofs.running.MemberSide.bundle.Goals as goal

pub returns : goal.returns
returns g c = record {
  opens = member_opens g.L.KeyLayout.layout c.args.self.now c.bundle.result c.bundle.ensures.opens;
  same = ap (seen_of_member g.L.KeyLayout.layout) c.bundle.ensures.same;
}
