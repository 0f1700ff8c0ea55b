use Rattle.std.proofs.Common.{◌∙◌}
use Rattle.sh_step.specs.declared.action.Action.TheVariants as action
use Rattle.sh_step.specs.declared.moves.Move.TheVariants as move
use Rattle.sh_pass.specs.Owners.{own_body}
use Rattle.sh_pass.proofs.OwnMay.{may_leave}
use Rattle.sh_pass.proofs.OwnNotes.{none_mine, none_noted_at, none_armed}
use Rattle.sh_pass.proofs.OwnSeats.{can, does, seat_at}
use Rattle.sh_pass.proofs.OwnOtherSteps.{leave_does}
use Rattle.sh_pass.proofs.owner.OwnerOn.leave.Goals as goal

pub leave-requires : goal.leave-requires
leave-requires g c =
    let v = c.args.self.now in
    let none = c.requires.pages in
    can v action.Leave (move.Leave c.args.shard) c.self.view_is
    (seat_at (c.heap.view_is ∙ c.kept-heap.ensures) c.self.invariant.seat)
    (may_leave g.L.KeyLayout.layout v c.args.shard c.requires.idle c.requires.owned
    (none_mine (own_body v).mine (λ x. (none x.page).mine x.slot))
    (none_noted_at (own_body v).cursors (λ q. (none q).cursor))
    (none_armed (own_body v).armed (λ q. (none q).armed)) c.requires.bell)

pub returns : goal.returns
returns g c =
    let v = c.args.self.now in
    let d = does v c.self.view_is (seat_at (c.heap.view_is ∙ c.kept-heap.ensures) c.self.invariant.seat)
    c.leave.ensures in
    record { does = d; left = leave_does g.L.KeyLayout.layout v _ c.args.shard c.requires.idle d }
