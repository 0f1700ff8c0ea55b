use Rattle.std.proofs.Common.{◌∙◌}
use Rattle.sh_step.specs.declared.action.Action.TheVariants as action
use Rattle.sh_step.specs.declared.moves.Move.TheVariants as move
use Rattle.sh_pass.proofs.OwnMay.{may_publish}
use Rattle.sh_pass.proofs.OwnSeats.{can, does, seat_at}
use Rattle.sh_pass.proofs.OwnOtherSteps.{publish_does}
use Rattle.sh_pass.proofs.owner.OwnerOn.publish.Goals as goal

pub publish-requires : goal.publish-requires
publish-requires g c = can c.args.self.now action.Publish (move.Publish c.args.slot_ref c.args.value.now) c.self.view_is
    (seat_at (c.heap.view_is ∙ c.kept-heap.ensures) c.self.invariant.seat)
    (may_publish g.L.KeyLayout.layout c.args.self.now c.args.slot_ref c.args.value.now c.requires.hand)

pub returns : goal.returns
returns g c =
    let layout = g.L.KeyLayout.layout in
    let v = c.args.self.now in
    let d = does v c.self.view_is (seat_at (c.heap.view_is ∙ c.kept-heap.ensures) c.self.invariant.seat)
    c.publish.ensures in
    let k = publish_does layout v _ c.args.slot_ref c.args.value.now c.publish.result d in
    record { does = d; acts = k.0; bells = k.1; pages = k.2; put = k.3 }
