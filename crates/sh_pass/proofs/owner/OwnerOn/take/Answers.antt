use Rattle.std.proofs.Common.{◌∙◌, ℕ, sym, subst}
use Rattle.sh_step.specs.declared.action.Action.TheVariants as action
use Rattle.sh_step.specs.declared.moves.Move.TheVariants as move
use Rattle.sh_table.specs.Seats.{CanDo, Did}
use Rattle.sh_pass.proofs.OwnMay.{may_take}
use Rattle.sh_pass.proofs.OwnSeats.{can, does, stood, seat_at}
use Rattle.sh_pass.proofs.OwnPageSteps.{take_does}
use Rattle.sh_pass.proofs.owner.OwnerOn.take.Goals as goal

pub take-requires : goal.take-requires
take-requires g c =
    let layout = g.L.KeyLayout.layout in
    let v = c.args.self.now in
    let touch = c.requires.touch in
    let seat = seat_at (c.heap.view_is ∙ c.kept-heap.ensures) c.self.invariant.seat in
    let s = stood v c.self.view_is seat in
    let P : ℕ → Type 0 = λ q. CanDo layout c.heap.inside.table (action.Take c.args.name) (move.Take q)
    c.self.inside.seated.seat in
    subst P (sym c.number-page.ensures) (can v _ _ c.self.view_is seat
    (may_take layout v c.args.name touch (s.owner.owned c.args.name.shard touch.owned) c.requires.classed
    c.requires.none))

pub returns : goal.returns
returns g c =
    let layout = g.L.KeyLayout.layout in
    let v = c.args.self.now in
    let touch = c.requires.touch in
    let seat = seat_at (c.heap.view_is ∙ c.kept-heap.ensures) c.self.invariant.seat in
    let s = stood v c.self.view_is seat in
    let P : ℕ → Type 0 = λ q. Did layout c.heap.inside.table (action.Take c.args.name) (move.Take q) c.take.result
    c.self.inside.seated.seat c.take.new.seat in
    let d = does v c.self.view_is seat (subst P c.number-page.ensures c.take.ensures) in
    let k = take_does layout v _ c.args.name s.owner c.take.result c.requires.none touch.idle d in
    record { does = d; acts = k.0; bells = k.1; page = k.2; put = k.3; arm = k.4 }
