use Rattle.std.proofs.Common.{◌≡◌, ◌+◌, ◌≤◌, length}
use Rattle.sh_script.specs.Script.{pieces_of}
use Rattle.script_orders.specs.Comments.{nothing_asked, asks, asked_from}
use Rattle.script_orders.proofs.comments.asked_of.Given as goal

abbrev pub invariant-loop-line : goal.invariant-loop-line
invariant-loop-line l = record {
  told : asked_from l.passes (asks l.asked) l.number (pieces_of l.rest)
      ≡ asked_from l.passes nothing_asked 1 (pieces_of l.fn.text);
  few : l.number + length l.rest ≤ length l.fn.text + 1;
}

abbrev pub decreases-loop-line : goal.decreases-loop-line
decreases-loop-line l = length l.rest
