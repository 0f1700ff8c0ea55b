use Rattle.std.proofs.Common.{◌∙◌}
use Rattle.sh_step.specs.declared.action.Action.TheVariants as action
use Rattle.sh_step.specs.declared.moves.Move.TheVariants as move
use Rattle.sh_pass.proofs.OwnMay.{may_tie_owned}
use Rattle.sh_pass.proofs.OwnSeats.{can, does, seat_at}
use Rattle.sh_pass.proofs.OwnOtherSteps.{tie_does}
use Rattle.sh_pass.proofs.owner.OwnerOn.tie.Goals as goal

pub tie-requires : goal.tie-requires
tie-requires g c = can c.args.self.now action.Tie (move.Tie c.args.slot_ref c.args.link c.args.ring) c.self.view_is
    (seat_at (c.heap.view_is ∙ c.kept-heap.ensures) c.self.invariant.seat)
    (may_tie_owned g.L.KeyLayout.layout c.args.self.now c.args.slot_ref c.args.link c.args.ring c.requires)

pub returns : goal.returns
returns g c =
    let layout = g.L.KeyLayout.layout in
    let v = c.args.self.now in
    let d = does v c.self.view_is (seat_at (c.heap.view_is ∙ c.kept-heap.ensures) c.self.invariant.seat)
    c.tie.ensures in
    let k = tie_does layout v _ c.args.slot_ref c.args.link c.args.ring d in
    record { does = d; acts = k.0; bells = k.1; pages = k.2; put = k.3 }
