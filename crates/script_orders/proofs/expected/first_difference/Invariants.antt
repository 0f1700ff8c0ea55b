use Rattle.std.proofs.Common.{◌≡◌, length}
use Rattle.script_orders.specs.Texts.{lines_counted, first_unlike}
use Rattle.script_orders.proofs.expected.first_difference.Given as goal

abbrev pub invariant-loop-line : goal.invariant-loop-line
invariant-loop-line l = first_unlike (lines_counted l.wanted) (lines_counted l.there)
    ≡ first_unlike (lines_counted l.expected) (lines_counted l.found)

abbrev pub decreases-loop-line : goal.decreases-loop-line
decreases-loop-line l = length l.wanted
