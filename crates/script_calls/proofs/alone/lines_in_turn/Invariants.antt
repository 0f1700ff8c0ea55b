use Rattle.std.proofs.Common.{map}
use Rattle.script_calls.specs.Alone.{OrderedSoFar}
use Rattle.script_calls.proofs.alone.lines_in_turn.Given as goal

abbrev pub ghost-met_in_turn : goal.ghost-met_in_turn
ghost-met_in_turn g a = g.at

abbrev pub invariant-loop-line : goal.invariant-loop-line
invariant-loop-line g l = OrderedSoFar g.at.0 g.at.1 l.tag l.lines l.line-index l.numbers.items
    (map g.S.Side.seen l.sides.items) l.output.items l.last
