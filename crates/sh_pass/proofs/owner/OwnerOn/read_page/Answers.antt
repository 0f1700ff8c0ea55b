use Rattle.std.proofs.Common.{◌∙◌, ℕ, refl, sym, subst}
use Rattle.sh_step.specs.declared.action.Action.TheVariants as action
use Rattle.sh_step.specs.declared.moves.Move.TheVariants as move
use Rattle.sh_table.specs.Seats.{CanDo, Did}
use Rattle.sh_pass.proofs.OwnMay.{may_read_page}
use Rattle.sh_pass.proofs.OwnSeats.{can, does, stood, seat_at}
use Rattle.sh_pass.proofs.OwnPageSteps.{read_does}
use Rattle.sh_pass.proofs.owner.OwnerOn.read_page.Goals as goal

pub read_page-requires : goal.read_page-requires
read_page-requires g c =
    let layout = g.L.KeyLayout.layout in
    let v = c.args.self.now in
    let touch = c.requires.touch in
    let seat = seat_at (c.heap.view_is ∙ c.kept-heap.ensures) c.self.invariant.seat in
    let s = stood v c.self.view_is seat in
    let P : ℕ → Type 0 = λ q. CanDo layout c.heap.inside.table (action.ReadPage c.args.name) (move.ReadPage q)
    c.self.inside.seated.seat in
    subst P (sym c.number-page.ensures) (can v _ _ c.self.view_is seat
    (may_read_page layout v c.args.name touch (s.owner.owned c.args.name.shard touch.owned)))

pub returns : goal.returns
returns g c =
    let layout = g.L.KeyLayout.layout in
    let v = c.args.self.now in
    let touch = c.requires.touch in
    let seat = seat_at (c.heap.view_is ∙ c.kept-heap.ensures) c.self.invariant.seat in
    let s = stood v c.self.view_is seat in
    let P : ℕ → Type 0 = λ q. Did layout c.heap.inside.table (action.ReadPage c.args.name) (move.ReadPage q)
    c.read_page.result c.self.inside.seated.seat c.read_page.new.seat in
    let d = does v c.self.view_is seat (subst P c.number-page.ensures c.read_page.ensures) in
    let k = read_does layout v _ c.args.name s.owner c.read_page.result touch.idle d in
    record { does = d; acts = k.0; bells = k.1; page = k.2; few = d.says refl }
