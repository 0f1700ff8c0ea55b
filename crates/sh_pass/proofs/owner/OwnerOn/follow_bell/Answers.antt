use Rattle.std.proofs.Common.{◌∙◌, ℕ, sym, subst}
use Rattle.sh_step.specs.declared.action.Action.TheVariants as action
use Rattle.sh_step.specs.declared.moves.Move.TheVariants as move
use Rattle.sh_table.specs.Seats.{CanDo, Did}
use Rattle.sh_pass.proofs.OwnMay.{may_follow_bell, home_is}
use Rattle.sh_pass.proofs.OwnSeats.{can, does, stood, seat_at}
use Rattle.sh_pass.proofs.OwnBellSteps.{follow_bell_does}
use Rattle.sh_step.specs.Plans.{plan_of}
use Rattle.sh_pass.specs.Owners.{heap_page}
use Rattle.sh_pass.proofs.owner.OwnerOn.follow_bell.Goals as goal

pub follow_bell-requires : goal.follow_bell-requires
follow_bell-requires g c =
    let layout = g.L.KeyLayout.layout in
    let v = c.args.self.now in
    let touch = c.requires.touch in
    let seat = seat_at (c.heap.view_is ∙ c.kept-heap.ensures) c.self.invariant.seat in
    let s = stood v c.self.view_is seat in
    let P : ℕ → Type 0 = λ q. CanDo layout c.heap.inside.table action.FollowBell (move.FollowBell q)
    c.self.inside.seated.seat in
    subst P (sym c.number-page.ensures) (can v _ _ c.self.view_is seat
    (may_follow_bell layout v (heap_page v c.args.name) touch.idle c.requires.cursor))

pub returns : goal.returns
returns g c =
    let layout = g.L.KeyLayout.layout in
    let v = c.args.self.now in
    let touch = c.requires.touch in
    let seat = seat_at (c.heap.view_is ∙ c.kept-heap.ensures) c.self.invariant.seat in
    let s = stood v c.self.view_is seat in
    let P : ℕ → Type 0 = λ q. Did layout c.heap.inside.table action.FollowBell (move.FollowBell q) c.follow_bell.result
    c.self.inside.seated.seat c.follow_bell.new.seat in
    let d = does v c.self.view_is seat (subst P c.number-page.ensures c.follow_bell.ensures) in
    let k = follow_bell_does layout v _ c.args.name s.owner c.follow_bell.result touch.idle
    (home_is (plan_of layout v.view.shape) c.args.name.shard c.args.name.page touch.page) d in
    record { does = d; acts = k.0; bell = k.1; page = k.2; put = k.3; arm = k.4 }
