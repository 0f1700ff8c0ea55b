use Rattle.sh_pass.specs.Passes.{ReadIntoDoes}
use Rattle.sh_member.proofs.CallersOf.{caller_did, caller_remains}
use Rattle.sh_member.proofs.member.reading.MemberReader.read_into.Goals as goal

pub returns-clause-does : goal.returns-clause-does
returns-clause-does g c =
    caller_did g.L.KeyLayout.layout
    (λ v answer w. ReadIntoDoes c.args.hold.key v c.args.value.now answer c.read_into.new.value w)
    c.read_into.result c.args.self.now c.read_into.new.self c.read_into.ensures

pub returns-clause-remains : goal.returns-clause-remains
returns-clause-remains g c =
    caller_remains g.L.KeyLayout.layout
    (λ v answer w. ReadIntoDoes c.args.hold.key v c.args.value.now answer c.read_into.new.value w)
    c.read_into.result c.args.self.now c.read_into.new.self c.read_into.ensures
