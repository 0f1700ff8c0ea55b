use Rattle.std.proofs.Common.{◌≡◌, ◌+◌, ◌≤◌, length}
use Rattle.sh_script.specs.Script.{pieces_of}
use Rattle.script_orders.specs.Calls.{origin_from}
use Rattle.script_orders.proofs.calls.origin.Given as goal

abbrev pub invariant-loop-first : goal.invariant-loop-first
invariant-loop-first l = record {
  told : origin_from l.number l.left (pieces_of l.rest) ≡ origin_from 1 l.line (pieces_of l.text);
  few : l.number + length l.rest ≤ length l.text + 1;
}

abbrev pub decreases-loop-first : goal.decreases-loop-first
decreases-loop-first l = length l.rest
