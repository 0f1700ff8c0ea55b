use Rattle.std.proofs.Common.{◌∙◌, ℕ, sym, subst}
use Rattle.sh_step.specs.declared.action.Action.TheVariants as action
use Rattle.sh_step.specs.declared.moves.Move.TheVariants as move
use Rattle.sh_table.specs.Seats.{CanDo, Did}
use Rattle.sh_pass.proofs.OwnMay.{may_follow}
use Rattle.sh_pass.proofs.OwnSeats.{can, does, stood, seat_at}
use Rattle.sh_pass.proofs.OwnPageSteps.{follow_does}
use Rattle.sh_pass.proofs.owner.OwnerOn.follow.Goals as goal

pub follow-requires : goal.follow-requires
follow-requires g c =
    let layout = g.L.KeyLayout.layout in
    let v = c.args.self.now in
    let touch = c.requires.touch in
    let seat = seat_at (c.heap.view_is ∙ c.kept-heap.ensures) c.self.invariant.seat in
    let s = stood v c.self.view_is seat in
    let P : ℕ → Type 0 = λ q. CanDo layout c.heap.inside.table (action.Follow c.args.name) (move.Follow q c.args.slot)
    c.self.inside.seated.seat in
    subst P (sym c.number-page.ensures) (can v _ _ c.self.view_is seat
    (may_follow layout v c.args.name touch (s.owner.owned c.args.name.shard touch.owned) c.args.slot
    c.requires.cursor))

pub returns : goal.returns
returns g c =
    let layout = g.L.KeyLayout.layout in
    let v = c.args.self.now in
    let touch = c.requires.touch in
    let seat = seat_at (c.heap.view_is ∙ c.kept-heap.ensures) c.self.invariant.seat in
    let s = stood v c.self.view_is seat in
    let P : ℕ → Type 0 = λ q. Did layout c.heap.inside.table (action.Follow c.args.name) (move.Follow q c.args.slot)
    c.follow.result c.self.inside.seated.seat c.follow.new.seat in
    let d = does v c.self.view_is seat (subst P c.number-page.ensures c.follow.ensures) in
    let k = follow_does layout v _ c.args.name s.owner c.args.slot c.follow.result touch.idle d in
    record { does = d; acts = k.0; bells = k.1; page = k.2; put = k.3; arm = k.4 }
