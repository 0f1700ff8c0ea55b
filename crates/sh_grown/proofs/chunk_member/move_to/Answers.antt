use Rattle.std.proofs.lemmas.Result.{err_from_is_err_and}
use Rattle.sh_grown.proofs.CallSteps.{left_took, move_took}
use Rattle.sh_grown.proofs.Keeping.{place_then}
use Rattle.sh_grown.proofs.Refusals.{place_adopts, place_stuck}
use Rattle.sh_grown.proofs.chunk_member.move_to.Goals as goal

pub returns-in_err-leave_at-clause-refused : goal.returns-in_err-leave_at-clause-refused
returns-in_err-leave_at-clause-refused c =
    let p = err_from_is_err_and c.from_residual.result c.from_residual.ensures.1 in
    place_stuck c.args.shard c.args.place.now c.leave_at.new.place c.from_residual.result
    c.in_err-leave_at.ensures.waits (rw (p.1, p.2) c.in_err-leave_at.ensures.err)

pub returns-clause-refused : goal.returns-clause-refused
returns-clause-refused c =
    place_adopts c.args.shard c.args.place.now c.leave_at.new.place c.adopt_at.new.place c.adopt_at.result
    c.leave_at.ensures.keeps c.in_ok-leave_at.ensures.left c.adopt_at.ensures.adopts

pub returns-in_err-leave_at-clause-steps : goal.returns-in_err-leave_at-clause-steps
returns-in_err-leave_at-clause-steps c =
    left_took c.args.place.now c.leave_at.new.place c.requires c.leave_at.ensures.rests c.leave_at.ensures.bounded

pub returns-clause-steps : goal.returns-clause-steps
returns-clause-steps c =
    move_took c.args.place.now c.leave_at.new.place c.adopt_at.new.place c.leave_at.ensures.rests
    c.leave_at.ensures.bounded c.leave_at.ensures.keeps c.adopt_at.ensures.rests c.adopt_at.ensures.bounded

pub returns-clause-keeps : goal.returns-clause-keeps
returns-clause-keeps c =
    place_then c.args.place.now c.leave_at.new.place c.adopt_at.new.place c.leave_at.ensures.keeps
    c.adopt_at.ensures.keeps
