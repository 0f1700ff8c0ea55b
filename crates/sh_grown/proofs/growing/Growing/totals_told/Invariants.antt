use Rattle.std.proofs.Common.{◌≡◌, ◌*◌, length}
use Rattle.std.specs.Prelude.{◌^◌}
use Rattle.sh_grown.specs.Sums.{AtMostEach, SumsBelow}
use Rattle.sh_grown.proofs.growing.Growing.totals_told.Given as goal

-- the sums over the chunks so far, each of which adds less than 2^32
abbrev pub invariant-loop-number : goal.invariant-loop-number
invariant-loop-number l = record {
  end : l.number-end ≡ length l.self.cells.items;
  few : AtMostEach (2 ^ 32 * l.number) l.sums;
  same : l.receipt.chunks.items ≡ l.fn.receipt.chunks.items;
  below : SumsBelow l.self l.fn.receipt.chunks.items l.number l.sums;
}
