use Rattle.sh_pass.specs.Passes.{GetDoes}
use Rattle.sh_member.proofs.CallersOf.{caller_did, caller_remains}
use Rattle.sh_member.proofs.member.reading.MemberReader.get.Goals as goal

pub returns-clause-does : goal.returns-clause-does
returns-clause-does g c = caller_did g.L.KeyLayout.layout (GetDoes g.L.KeyLayout.layout c.args.key) c.get.result
    c.args.self.now c.get.new.self c.get.ensures

pub returns-clause-remains : goal.returns-clause-remains
returns-clause-remains g c = caller_remains g.L.KeyLayout.layout (GetDoes g.L.KeyLayout.layout c.args.key) c.get.result
    c.args.self.now c.get.new.self c.get.ensures
