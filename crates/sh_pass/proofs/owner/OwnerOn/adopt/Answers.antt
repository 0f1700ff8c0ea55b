use Rattle.std.proofs.Common.{◌∙◌, refl}
use Rattle.sh_pass.proofs.OwnMay.{may_adopt}
use Rattle.sh_pass.proofs.OwnSeats.{can, does, seat_at}
use Rattle.sh_pass.proofs.OwnOtherSteps.{adopt_does}
use Rattle.sh_step.specs.declared.action.Action.TheVariants as action
use Rattle.sh_step.specs.declared.moves.Move.TheVariants as move
use Rattle.sh_pass.proofs.owner.OwnerOn.adopt.Goals as goal

pub adopt-found-requires : goal.adopt-found-requires
adopt-found-requires g c = can c.args.self.now (action.Adopt c.args.shard) (move.Adopt c.args.shard) c.self.view_is
    (seat_at (c.heap.view_is ∙ c.kept-heap.ensures) c.self.invariant.seat)
    (may_adopt g.L.KeyLayout.layout c.args.self.now c.args.shard c.requires.idle c.requires.left c.requires.shard)

pub returns-then-found-eq0 : goal.returns-then-found-eq0
returns-then-found-eq0 g c =
    let d = does c.args.self.now c.self.view_is (seat_at (c.heap.view_is ∙ c.kept-heap.ensures) c.self.invariant.seat)
    c.adopt-found.ensures in
    let k = adopt_does g.L.KeyLayout.layout c.args.self.now _ c.args.shard c.adopt-found.result (d.says refl)
    c.requires.idle c.requires.left d in
    record { does = d; tries = k.0; adopts = k.1; put = k.2; arm = k.3 }

pub returns-else-found-eq0 : goal.returns-else-found-eq0
returns-else-found-eq0 g c =
    let d = does c.args.self.now c.self.view_is (seat_at (c.heap.view_is ∙ c.kept-heap.ensures) c.self.invariant.seat)
    c.adopt-found.ensures in
    let k = adopt_does g.L.KeyLayout.layout c.args.self.now _ c.args.shard c.adopt-found.result (d.says refl)
    c.requires.idle c.requires.left d in
    record { does = d; tries = k.0; adopts = k.1; put = k.2; arm = k.3 }
