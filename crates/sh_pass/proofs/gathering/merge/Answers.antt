use Rattle.std.proofs.Common.{◌∙◌, sym}
use Rattle.sh_pass.proofs.OwnSeats.{seat_at}
use Rattle.sh_pass.proofs.Tales.{pass_joined}
use Rattle.sh_pass.proofs.gathering.merge.Goals as goal

pub invariant_of-result : goal.invariant_of-result
invariant_of-result g c = pass_joined c.one.inside.seated.held.items c.one.inside.seated.named
    c.other.inside.seated.named c.one.invariant c.other.invariant
    (seat_at (sym (c.behind-heap.view_is ∙ c.kept.ensures)) c.join.ensures.seat) c.join.ensures.view
