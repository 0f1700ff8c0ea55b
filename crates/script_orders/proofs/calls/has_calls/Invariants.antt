use Rattle.std.proofs.Common.{◌≡◌, length}
use Rattle.sh_script.specs.Script.{pieces_of}
use Rattle.script_orders.specs.Calls.{first_is_third}
use Rattle.script_orders.proofs.calls.has_calls.Given as goal

abbrev pub invariant-loop-line : goal.invariant-loop-line
invariant-loop-line l = first_is_third (pieces_of l.rest) ≡ first_is_third (pieces_of l.text)

abbrev pub decreases-loop-line : goal.decreases-loop-line
decreases-loop-line l = length l.rest
