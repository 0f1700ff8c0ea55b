use Rattle.std.proofs.Common.{◌∙◌}
use Rattle.sh_step.specs.declared.action.Action.TheVariants as action
use Rattle.sh_step.specs.declared.moves.Move.TheVariants as move
use Rattle.sh_pass.proofs.OwnMay.{may_take_bell}
use Rattle.sh_pass.proofs.OwnSeats.{can, does, seat_at}
use Rattle.sh_pass.proofs.OwnBellSteps.{take_bell_does}
use Rattle.sh_pass.proofs.owner.OwnerOn.take_bell.Goals as goal

pub take_bell-requires : goal.take_bell-requires
take_bell-requires g c = can c.args.self.now action.TakeBell (move.TakeBell c.args.shard) c.self.view_is
    (seat_at (c.heap.view_is ∙ c.kept-heap.ensures) c.self.invariant.seat)
    (may_take_bell g.L.KeyLayout.layout c.args.self.now c.args.shard c.requires.idle c.requires.owned c.requires.none)

pub returns : goal.returns
returns g c =
    let layout = g.L.KeyLayout.layout in
    let v = c.args.self.now in
    let d = does v c.self.view_is (seat_at (c.heap.view_is ∙ c.kept-heap.ensures) c.self.invariant.seat)
    c.take_bell.ensures in
    let k = take_bell_does layout v _ c.args.shard c.take_bell.result c.requires.idle d in
    record { does = d; acts = k.0; bell = k.1; pages = k.2; put = k.3; arm = k.4 }
