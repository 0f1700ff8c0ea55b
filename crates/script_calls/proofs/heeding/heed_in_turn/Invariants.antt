use Rattle.std.proofs.Common.{map}
use Rattle.script_calls.specs.Heeding.{HeardSoFar}
use Rattle.script_calls.proofs.heeding.heed_in_turn.Given as goal

abbrev pub invariant-loop-place : goal.invariant-loop-place
invariant-loop-place g l = HeardSoFar g.at.0 l.fn.last (map g.S.Side.seen l.fn.sides.items) l.place
    (map g.S.Side.seen l.sides.items) l.heard
