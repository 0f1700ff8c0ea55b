use Rattle.sh_pass.proofs.Looked.{glance_does, glance_leaves}
use Rattle.sh_pass.proofs.DecidedLaws.{name_found}
use Rattle.sh_pass.proofs.calls.look_key.Goals as goal

pub returns-clause-does : goal.returns-clause-does
returns-clause-does g c =
    let e = c.look_at.ensures in
    let named = name_found c.args.key c.shape.result.now c.place_of_key.result c.in-Some.name c.requires.seat
    c.shape.ensures c.place_of_key.ensures c.in-Some.is in
    glance_does g.M.Room.takes c.args.key c.in-Some.name c.look_at.result c.args.room.now c.look_at.new.room e.grows.0
    c.requires.seat e.seat named e.grows.1 e.decides e.unheard e.grows.2

pub returns-clause-leaves : goal.returns-clause-leaves
returns-clause-leaves g c =
    let e = c.look_at.ensures in
    glance_leaves c.args.seat.now c.look_at.new.seat c.args.key c.look_at.result e.grows.0 c.requires.idle
    e.seat e.grows.1
