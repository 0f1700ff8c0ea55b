use Rattle.std.proofs.Common.{subst}
use Rattle.sh_pass.specs.Fetching.{FetchDoes}
use Rattle.sh_pass.specs.Passes.{Caller, caller_of}
use Rattle.sh_pass.specs.Rooms.{FillsRoom}
use Rattle.sh_pass.proofs.pass.PassOn.look_into.Goals as goal

pub returns-clause-does : goal.returns-clause-does
returns-clause-does g c =
    let P : Caller → Type 0 = λ v. FillsRoom g.M.Room.takes (λ answer. FetchDoes g.L.KeyLayout.layout c.args.key v
    answer (caller_of c.fetch_key.new.seat)) c.args.room.now c.fetch_key.result.0 c.fetch_key.new.room in
    subst P c.self.view_is c.fetch_key.ensures.does
