use Rattle.sh_pass.specs.Passes.{ReadDoes}
use Rattle.sh_member.proofs.CallersOf.{caller_did, caller_remains}
use Rattle.sh_member.proofs.member.reading.MemberReader.read.Goals as goal

pub returns-clause-does : goal.returns-clause-does
returns-clause-does g c = caller_did g.L.KeyLayout.layout (ReadDoes c.args.hold.key) c.read.result
    c.args.self.now c.read.new.self c.read.ensures

pub returns-clause-remains : goal.returns-clause-remains
returns-clause-remains g c = caller_remains g.L.KeyLayout.layout (ReadDoes c.args.hold.key) c.read.result
    c.args.self.now c.read.new.self c.read.ensures
