use Rattle.sh_pass.specs.Telling.{ReleaseTells}
use Rattle.sh_member.proofs.CallersOf.{caller_did, caller_remains}
use Rattle.sh_member.proofs.member.telling.MemberTells.release_ended.Goals as goal

pub returns-clause-does : goal.returns-clause-does
returns-clause-does g c = (caller_did g.L.KeyLayout.layout (λ v answer w. ReleaseTells g.M.EndRoom.asks g.M.EndRoom.takes g.L.KeyLayout.layout c.args.hold.key c.args.room.now v answer
    c.release_ended.new.room w)
    c.release_ended.result c.args.self.now c.release_ended.new.self c.release_ended.ensures).0

pub returns-clause-tells : goal.returns-clause-tells
returns-clause-tells g c = (caller_did g.L.KeyLayout.layout (λ v answer w. ReleaseTells g.M.EndRoom.asks g.M.EndRoom.takes g.L.KeyLayout.layout c.args.hold.key c.args.room.now v answer
    c.release_ended.new.room w)
    c.release_ended.result c.args.self.now c.release_ended.new.self c.release_ended.ensures).1

pub returns-clause-remains : goal.returns-clause-remains
returns-clause-remains g c = caller_remains g.L.KeyLayout.layout (λ v answer w. ReleaseTells g.M.EndRoom.asks g.M.EndRoom.takes g.L.KeyLayout.layout c.args.hold.key c.args.room.now v answer
    c.release_ended.new.room w)
    c.release_ended.result c.args.self.now c.release_ended.new.self c.release_ended.ensures
