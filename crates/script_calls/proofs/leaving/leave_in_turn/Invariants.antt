use Rattle.std.proofs.Common.{map}
use Rattle.script_calls.specs.Leaving.{LeftSoFar}
use Rattle.script_calls.proofs.leaving.leave_in_turn.Given as goal

abbrev pub invariant-loop-place : goal.invariant-loop-place
invariant-loop-place g l = LeftSoFar g.at.0 (map g.S.Side.seen l.fn.sides.items) l.place
    (map g.S.Side.seen l.sides.items) l.heard
