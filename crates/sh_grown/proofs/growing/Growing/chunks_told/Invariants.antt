use Rattle.std.proofs.Common.{◌≡◌, ◌≤◌, length}
use Rattle.sh_grown.specs.Wholes.{CountsBelow, IsAny}
use Rattle.sh_grown.proofs.growing.Growing.chunks_told.Given as goal

abbrev pub invariant-loop-number : goal.invariant-loop-number
invariant-loop-number l = record {
  end : l.number-end ≡ length l.self.cells.items;
  few : l.found ≤ l.number;
  same : l.receipt.chunks.items ≡ l.fn.receipt.chunks.items;
  below : CountsBelow l.self l.fn.receipt.chunks.items IsAny l.number l.found;
}
