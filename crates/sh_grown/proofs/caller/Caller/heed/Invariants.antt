use Rattle.std.proofs.Common.{◌≡◌, ◌≤◌, ℕ, None, get_or, length}
use Rattle.sh_grown.specs.Callers.{Stays}
use Rattle.sh_grown.specs.Receipts.{HeedsBelow}
use Rattle.sh_grown.proofs.caller.Caller.heed.Given as goal

abbrev pub invariant-loop-chunk : goal.invariant-loop-chunk
invariant-loop-chunk l = record {
  end : l.chunk-end ≡ length l.fn.receipt.chunks.items;
  stays : Stays l.initial.self l.self;
  left : (k : ℕ) → l.chunk ≤ k
      → get_or l.receipt.chunks.items k None ≡ get_or l.fn.receipt.chunks.items k None;
  heeds : HeedsBelow l.initial.self.growing l.initial.self.number l.chunk l.fn.receipt.chunks.items
      l.initial.self.met.items l.self.met.items;
}
