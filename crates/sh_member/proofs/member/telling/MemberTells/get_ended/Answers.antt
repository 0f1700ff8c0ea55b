use Rattle.sh_pass.specs.Telling.{GetTells}
use Rattle.sh_member.proofs.CallersOf.{caller_did, caller_remains}
use Rattle.sh_member.proofs.member.telling.MemberTells.get_ended.Goals as goal

pub returns-clause-does : goal.returns-clause-does
returns-clause-does g c = (caller_did g.L.KeyLayout.layout (λ v answer w. GetTells g.M.EndRoom.asks g.M.EndRoom.takes g.L.KeyLayout.layout c.args.key c.args.room.now v answer
    c.get_ended.new.room w)
    c.get_ended.result c.args.self.now c.get_ended.new.self c.get_ended.ensures).0

pub returns-clause-tells : goal.returns-clause-tells
returns-clause-tells g c = (caller_did g.L.KeyLayout.layout (λ v answer w. GetTells g.M.EndRoom.asks g.M.EndRoom.takes g.L.KeyLayout.layout c.args.key c.args.room.now v answer
    c.get_ended.new.room w)
    c.get_ended.result c.args.self.now c.get_ended.new.self c.get_ended.ensures).1

pub returns-clause-remains : goal.returns-clause-remains
returns-clause-remains g c = caller_remains g.L.KeyLayout.layout (λ v answer w. GetTells g.M.EndRoom.asks g.M.EndRoom.takes g.L.KeyLayout.layout c.args.key c.args.room.now v answer
    c.get_ended.new.room w)
    c.get_ended.result c.args.self.now c.get_ended.new.self c.get_ended.ensures
