use Rattle.std.proofs.Common.{Ok, subst}
use Rattle.sh_pass.specs.declared.looking.Glance.{Glance}
use Rattle.sh_pass.specs.Passes.{GlanceDoes, caller_of}
use Rattle.sh_pass.proofs.Fetched.{seen_fills, gone_fills, bad_fills, early_fills}
use Rattle.sh_pass.proofs.OwnCalls.{leaves_then}
use Rattle.sh_pass.proofs.fetching.fetch_key.Goals as goal

pub returns-in-Seen-clause-does : goal.returns-in-Seen-clause-does
returns-in-Seen-clause-does g c =
    let D : Glance → Type 0 = λ found. GlanceDoes g.M.Room.takes g.L.KeyLayout.layout c.args.key
    (caller_of c.args.seat.now) c.args.room.now (Ok found) c.look_key.new.room (caller_of c.look_key.new.seat) in
    seen_fills g.M.Room.takes g.L.KeyLayout.layout c.args.key (caller_of c.args.seat.now) c.args.room.now
    c.look_key.new.room (caller_of c.look_key.new.seat) (subst D c.in-Seen.is c.in-Ok.ensures.does)

pub returns-in-Gone-clause-does : goal.returns-in-Gone-clause-does
returns-in-Gone-clause-does g c =
    let D : Glance → Type 0 = λ found. GlanceDoes g.M.Room.takes g.L.KeyLayout.layout c.args.key
    (caller_of c.args.seat.now) c.args.room.now (Ok found) c.look_key.new.room (caller_of c.look_key.new.seat) in
    gone_fills g.M.Room.takes g.L.KeyLayout.layout c.args.key (caller_of c.args.seat.now) c.args.room.now
    c.look_key.new.room (caller_of c.look_key.new.seat) (subst D c.in-Gone.is c.in-Ok.ensures.does)

pub returns-in-Early-clause-does : goal.returns-in-Early-clause-does
returns-in-Early-clause-does g c =
    let D : Glance → Type 0 = λ found. GlanceDoes g.M.Room.takes g.L.KeyLayout.layout c.args.key
    (caller_of c.args.seat.now) c.args.room.now (Ok found) c.look_key.new.room (caller_of c.look_key.new.seat) in
    early_fills g.M.Room.takes g.L.KeyLayout.layout c.args.key (caller_of c.args.seat.now) c.args.room.now
    c.look_key.new.room c.get_and_read.new.room (caller_of c.look_key.new.seat) (caller_of c.get_and_read.new.seat)
    c.get_and_read.result.0 (subst D c.in-Early.is c.in-Ok.ensures.does) c.get_and_read.ensures.does

pub returns-in-Early-clause-leaves : goal.returns-in-Early-clause-leaves
returns-in-Early-clause-leaves g c = leaves_then g.L.KeyLayout.layout (caller_of c.args.seat.now)
    (caller_of c.look_key.new.seat) (caller_of c.get_and_read.new.seat) c.get_and_read.result.1 c.requires.idle
    c.look_key.ensures.leaves c.get_and_read.ensures.leaves

pub returns-in-Err-clause-does : goal.returns-in-Err-clause-does
returns-in-Err-clause-does g c = bad_fills g.M.Room.takes g.L.KeyLayout.layout c.args.key
    (caller_of c.args.seat.now) c.args.room.now c.in-Err.refusal c.look_key.new.room (caller_of c.look_key.new.seat)
    c.in-Err.ensures.does
