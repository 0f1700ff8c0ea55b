use Rattle.std.proofs.Common.{◌≡◌, ◌≤◌, length}
use Rattle.sh_grown.specs.Opening.{AreOpen}
use Rattle.sh_grown.proofs.growing.Growing.first_open.Given as goal

abbrev pub invariant-loop-number : goal.invariant-loop-number
invariant-loop-number l = record {
  few : l.number-end ≤ 256;
  count : length l.found.notes.items ≡ l.number;
  are : AreOpen l.self l.number l.found;
}
