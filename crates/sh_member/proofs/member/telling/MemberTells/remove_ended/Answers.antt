use Rattle.sh_pass.specs.Telling.{RemoveTells}
use Rattle.sh_member.proofs.CallersOf.{caller_did, caller_remains}
use Rattle.sh_member.proofs.member.telling.MemberTells.remove_ended.Goals as goal

pub returns-clause-does : goal.returns-clause-does
returns-clause-does g c = (caller_did g.L.KeyLayout.layout (λ v answer w. RemoveTells g.M.EndRoom.asks g.M.EndRoom.takes g.L.KeyLayout.layout c.args.key c.args.room.now v answer
    c.remove_ended.new.room w)
    c.remove_ended.result c.args.self.now c.remove_ended.new.self c.remove_ended.ensures).0

pub returns-clause-tells : goal.returns-clause-tells
returns-clause-tells g c = (caller_did g.L.KeyLayout.layout (λ v answer w. RemoveTells g.M.EndRoom.asks g.M.EndRoom.takes g.L.KeyLayout.layout c.args.key c.args.room.now v answer
    c.remove_ended.new.room w)
    c.remove_ended.result c.args.self.now c.remove_ended.new.self c.remove_ended.ensures).1

pub returns-clause-remains : goal.returns-clause-remains
returns-clause-remains g c = caller_remains g.L.KeyLayout.layout (λ v answer w. RemoveTells g.M.EndRoom.asks g.M.EndRoom.takes g.L.KeyLayout.layout c.args.key c.args.room.now v answer
    c.remove_ended.new.room w)
    c.remove_ended.result c.args.self.now c.remove_ended.new.self c.remove_ended.ensures
