-- Sums with one chunk more.
use Rattle.std.proofs.Common.{◌≡◌, ℕ, suc, ◌+◌, ◌*◌, ◌≤◌, ◌⊎◌, List, Option, arith, refl, subst}
use Rattle.std.specs.Prelude.{◌^◌, Err}
use Rattle.sh_chunk.specs.Chunks.{chunked}
use Rattle.sh_table.specs.Seats.{Heap}
use Rattle.sh_whole.specs.Homes.{TellsTotals}
use Rattle.sh_whole.specs.declared.refusal.NotTold.{NotTold}
use Rattle.sh_whole.specs.declared.refusal.NotTold.TheVariants as untold
use Rattle.sh_grown.specs.declared.growing.Growing.{Growing}
use Rattle.sh_grown.specs.declared.receipts.ChunkReceipt.{ChunkReceipt}
use Rattle.sh_grown.specs.declared.totals.GrownTotals.{GrownTotals}
use Rattle.sh_grown.specs.Sums.{AddsChunk, AddsFew, AtMostEach, SumsBelow}

-- totals are refused as Away alone
pub only_away : (heap : Heap) (why : NotTold) → TellsTotals chunked heap (Err why) → why ≡ untold.Away
only_away heap untold.Away h = refl
only_away heap untold.Memory h = absurd h
only_away heap untold.NoPage h = absurd h

-- one chunk more was looked for
pub chunk_more : (growing : Growing) (given : List (Option ChunkReceipt)) (k : ℕ) (t u : GrownTotals)
    → SumsBelow growing given k t → AddsChunk growing given k t u → SumsBelow growing given (k + 1) u
chunk_more growing given k t u below here =
    let is : suc k ≡ k + 1 = omega arith in subst (λ (z : ℕ). SumsBelow growing given z u) is (t, below, here)

-- each chunk adds at most 2^32 to a sum
pub at_most_more : (k : ℕ) (t u : GrownTotals) → AddsFew t u → AtMostEach (2 ^ 32 * k) t
    → AtMostEach (2 ^ 32 * (k + 1)) u
at_most_more k t u adds most = record {
  chunks = omega (arith, adds.chunks, most.chunks);
  live = omega (arith, adds.live, most.live);
  marked = omega (arith, adds.marked, most.marked);
  retired = omega (arith, adds.retired, most.retired);
  queued = omega (arith, adds.queued, most.queued);
  used_pages = omega (arith, adds.used_pages, most.used_pages);
  blank_pages = omega (arith, adds.blank_pages, most.blank_pages);
}

-- and a chunk that is not found adds nothing
pub at_most_stays : (k : ℕ) (t : GrownTotals) → AtMostEach (2 ^ 32 * k) t → AtMostEach (2 ^ 32 * (k + 1)) t
at_most_stays k t most = record {
  chunks = omega (arith, most.chunks);
  live = omega (arith, most.live);
  marked = omega (arith, most.marked);
  retired = omega (arith, most.retired);
  queued = omega (arith, most.queued);
  used_pages = omega (arith, most.used_pages);
  blank_pages = omega (arith, most.blank_pages);
}
