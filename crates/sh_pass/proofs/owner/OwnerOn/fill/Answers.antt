use Rattle.std.proofs.Common.{◌∙◌}
use Rattle.sh_step.specs.declared.action.Action.TheVariants as action
use Rattle.sh_step.specs.declared.moves.Move.TheVariants as move
use Rattle.sh_pass.proofs.OwnMay.{may_fill}
use Rattle.sh_pass.proofs.OwnSeats.{can, does, seat_at}
use Rattle.sh_pass.proofs.OwnOtherSteps.{fill_does}
use Rattle.sh_pass.proofs.owner.OwnerOn.fill.Goals as goal

pub fill-requires-clause-can : goal.fill-requires-clause-can
fill-requires-clause-can g c = can c.args.self.now action.Fill
    (move.Fill c.args.slot_ref c.args.value.now c.args.i c.args.class_word)
    c.self.view_is (seat_at (c.heap.view_is ∙ c.kept-heap.ensures) c.self.invariant.seat)
    (may_fill g.L.KeyLayout.layout c.args.self.now c.args.slot_ref c.args.value.now c.args.i c.args.class_word
    c.requires.hand c.requires.left c.requires.class)

pub returns : goal.returns
returns g c =
    let layout = g.L.KeyLayout.layout in
    let v = c.args.self.now in
    let d = does v c.self.view_is (seat_at (c.heap.view_is ∙ c.kept-heap.ensures) c.self.invariant.seat)
    c.fill.ensures in
    let k = fill_does layout v _ c.args.slot_ref c.args.value.now c.args.i c.args.class_word d in
    record { does = d; acts = k.0; bells = k.1; pages = k.2; put = k.3 }
