use Rattle.sh_pass.specs.Passes.{ReleaseDoes}
use Rattle.sh_member.proofs.CallersOf.{caller_did, caller_remains}
use Rattle.sh_member.proofs.member.reading.MemberReader.release.Goals as goal

pub returns-clause-does : goal.returns-clause-does
returns-clause-does g c =
    caller_did g.L.KeyLayout.layout
    (ReleaseDoes g.L.KeyLayout.layout c.args.hold.key)
    c.release.result c.args.self.now c.release.new.self c.release.ensures

pub returns-clause-remains : goal.returns-clause-remains
returns-clause-remains g c =
    caller_remains g.L.KeyLayout.layout
    (ReleaseDoes g.L.KeyLayout.layout c.args.hold.key)
    c.release.result c.args.self.now c.release.new.self c.release.ensures
