-- Sums over the chunks of a growing heap.
use Rattle.std.specs.Prelude.{◌≡◌, ℕ, zero, suc, ◌+◌, ◌≤◌, ◌^◌, ◌⊎◌, List, Option, None}
use Rattle.sh_chunk.specs.Chunks.{chunked}
use Rattle.sh_gather.specs.declared.totals.Totals.{Totals}
use Rattle.sh_whole.specs.Homes.{AreTotalsOf}
use Rattle.sh_grown.specs.Wholes.{FindsTold, IsToldChunk, SeenChunk}
use Rattle.sh_grown.specs.declared.growing.Growing.{Growing}
use Rattle.sh_grown.specs.declared.receipts.ChunkReceipt.{ChunkReceipt}
use Rattle.sh_grown.specs.declared.totals.GrownTotals.{GrownTotals}

-- the sums over no chunk
abbrev pub no_chunks : GrownTotals
no_chunks = record {
  chunks = 0;
  live = 0;
  marked = 0;
  retired = 0;
  queued = 0;
  used_pages = 0;
  blank_pages = 0;
}

-- with a chunk more, which has these totals
abbrev pub with_totals : Totals → GrownTotals → GrownTotals
with_totals told t = record {
  chunks = t.chunks + 1;
  live = t.live + told.live;
  marked = t.marked + told.marked;
  retired = t.retired + told.retired;
  queued = t.queued + told.queued;
  used_pages = t.used_pages + told.used_pages;
  blank_pages = t.blank_pages + told.blank_pages;
}

-- none of the sums is above n
pub record AtMostEach (n : ℕ) (t : GrownTotals) : Type 0 where
  pub chunks : t.chunks ≤ n
  pub live : t.live ≤ n
  pub marked : t.marked ≤ n
  pub retired : t.retired ≤ n
  pub queued : t.queued ≤ n
  pub used_pages : t.used_pages ≤ n
  pub blank_pages : t.blank_pages ≤ n

-- each sum grows by at most this much if a chunk is added
pub record AddsFew (t u : GrownTotals) : Type 0 where
  pub chunks : u.chunks ≤ t.chunks + 2 ^ 32
  pub live : u.live ≤ t.live + 2 ^ 32
  pub marked : u.marked ≤ t.marked + 2 ^ 32
  pub retired : u.retired ≤ t.retired + 2 ^ 32
  pub queued : u.queued ≤ t.queued + 2 ^ 32
  pub used_pages : u.used_pages ≤ t.used_pages + 2 ^ 32
  pub blank_pages : u.blank_pages ≤ t.blank_pages + 2 ^ 32

-- the chunk of this number was found open, and its totals are added
pub record CountsChunk (growing : Growing) (given : List (Option ChunkReceipt)) (number : ℕ) (t u : GrownTotals) :
    Type 0 where
  pub chunk : SeenChunk
  pub is : IsToldChunk growing given number chunk
  pub told : Totals
  pub are : AreTotalsOf chunked chunk.heap told
  pub sum : u ≡ with_totals told t

-- the same, or it was not found open, and the receipt does not cover it
abbrev pub AddsChunk : Growing → List (Option ChunkReceipt) → (number : ℕ) → GrownTotals → GrownTotals → Type 0
AddsChunk growing given number t u =
    ((u ≡ t) × FindsTold growing given number None) ⊎ CountsChunk growing given number t u

-- the sums over the chunks below k that were found open, each of which is counted once
abbrev pub SumsBelow : Growing → List (Option ChunkReceipt) → ℕ → GrownTotals → Type 0
SumsBelow growing given zero t = t ≡ no_chunks
SumsBelow growing given (suc k) t = (before : GrownTotals) × SumsBelow growing given k before
    × AddsChunk growing given k before t
