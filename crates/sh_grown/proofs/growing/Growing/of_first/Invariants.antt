use Rattle.std.proofs.Common.{◌≡◌, length}
use Rattle.sh_grown.proofs.growing.Growing.of_first.Given as goal

abbrev pub invariant-loop-chunk : goal.invariant-loop-chunk
invariant-loop-chunk l = length l.cells.items ≡ l._chunk
