use Rattle.std.proofs.Common.{◌≡◌, ◌≤◌, take}
use Rattle.std.specs.List.{count_by}
use Rattle.sh_script.specs.Words.{is_newline}
use Rattle.script_orders.proofs.calls.newlines.Given as goal

abbrev pub invariant-loop-byte : goal.invariant-loop-byte
invariant-loop-byte l = record {
  count_is : l.count ≡ count_by is_newline (take l.byte-index l.text);
  few : l.count ≤ l.byte-index;
}
