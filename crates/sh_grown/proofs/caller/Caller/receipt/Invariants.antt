use Rattle.std.proofs.Common.{◌≡◌, ◌≤◌, ◌<◌, ℕ, None, get_or, length}
use Rattle.sh_grown.specs.Callers.{Stays}
use Rattle.sh_grown.specs.Receipts.{CoversEach}
use Rattle.sh_grown.specs.Steps.{RestsThere}
use Rattle.sh_grown.proofs.caller.Caller.receipt.Given as goal

abbrev pub invariant-loop-chunk : goal.invariant-loop-chunk
invariant-loop-chunk l = record {
  end : l.chunk-end ≡ length l.initial.self.growing.cells.items;
  few : l.chunk-end ≤ 256;
  count : length l.chunks.items ≡ l.chunk;
  stays : Stays l.initial.self l.self;
  same : l.self.met.items ≡ l.initial.self.met.items;
  rest : (k : ℕ) → k < l.chunk → RestsThere (get_or l.initial.self.met.items k None);
  covers : CoversEach l.chunk l.initial.self.met.items l.chunks.items;
}
