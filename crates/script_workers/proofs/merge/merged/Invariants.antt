use Rattle.std.proofs.Common.{map}
use Rattle.script_workers.specs.Merges.{MergedSoFar}
use Rattle.script_workers.proofs.merge.merged.Given as goal

abbrev pub invariant-loop-line : goal.invariant-loop-line
invariant-loop-line g l = MergedSoFar g.B.Room.heap g.B.Room.terms g.B.Room.tag g.B.Room.lines l.line-index
    l.names.items (map g.S.Side.seen l.sides.items) l.rests.items l.output.items
