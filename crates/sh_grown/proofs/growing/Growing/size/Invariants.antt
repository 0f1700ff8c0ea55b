use Rattle.std.proofs.Common.{◌≡◌, ◌≤◌, length}
use Rattle.sh_grown.specs.Sizes.{SizesBelow}
use Rattle.sh_grown.proofs.growing.Growing.size.Given as goal

abbrev pub invariant-loop-number : goal.invariant-loop-number
invariant-loop-number l = record {
  end : l.number-end ≡ length l.self.cells.items;
  few : l.size.chunks ≤ l.number;
  below : SizesBelow l.self l.number l.size;
}
