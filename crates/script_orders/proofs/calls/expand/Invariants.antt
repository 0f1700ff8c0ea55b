use Rattle.std.proofs.Common.{◌≡◌, ◌++◌, length}
use Rattle.sh_script.specs.Script.{pieces_of}
use Rattle.script_orders.specs.Calls.{expanded}
use Rattle.script_orders.proofs.calls.expand.Given as goal

abbrev pub invariant-loop-line : goal.invariant-loop-line
invariant-loop-line l = l.out.items ++ expanded (pieces_of l.rest) ≡ expanded (pieces_of l.text)

abbrev pub decreases-loop-line : goal.decreases-loop-line
decreases-loop-line l = length l.rest
