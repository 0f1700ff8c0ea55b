-- Why a chunk is not gathered, one chunk more that is counted, and what a receipt says of it.
use Rattle.std.proofs.Common.{◌≡◌, ℕ, suc, ◌+◌, ◌<◌, ◌⊎◌, List, [], Option, Some, None, arith, get_or, length, refl}
use Rattle.std.proofs.Common.{subst, sym, ◌∙◌}
use Rattle.std.specs.Prelude.{Err, IfSome, MatchOption}
use Rattle.std.specs.Option.{ForSome}
use Rattle.sh_table.specs.Seats.{Heap}
use Rattle.sh_whole.specs.Homes.{GathersPool}
use Rattle.sh_whole.specs.declared.refusal.NotTold.{NotTold}
use Rattle.sh_whole.specs.declared.refusal.NotTold.TheVariants as untold
use Rattle.sh_grown.specs.declared.growing.Growing.{Growing}
use Rattle.sh_grown.specs.declared.receipts.ChunkReceipt.{ChunkReceipt}
use Rattle.sh_grown.specs.ChunkShapes.{IsShaped}
use Rattle.sh_grown.specs.Growing.{shape_in}
use Rattle.sh_grown.specs.Receipts.{AreReceiptsIn, IsReceiptIn}
use Rattle.sh_grown.specs.Wholes.{CountsBelow, CountsOpen, FindsTold, IsChunkOf, SeenChunk, WhyUngathered}
use Rattle.sh_grown.proofs.OfChunks.{in_none, in_some}

pub ungathered : (heap : Heap) (why : NotTold) → GathersPool heap (Err why) → WhyUngathered why
ungathered heap untold.Away h = tt
ungathered heap untold.Memory h = tt
ungathered heap untold.NoPage h = absurd h

-- one chunk more was looked for
pub counts_more : (growing : Growing) (given : List (Option ChunkReceipt)) (IsSo : SeenChunk → Type 0)
    (k before count : ℕ) → CountsBelow growing given IsSo k before
    → (((count ≡ before) × FindsTold growing given k None) ⊎ CountsOpen growing given IsSo k before count)
    → CountsBelow growing given IsSo (k + 1) count
counts_more growing given IsSo k before count below here =
    let is : suc k ≡ k + 1 = omega arith in
    subst (λ (z : ℕ). CountsBelow growing given IsSo z count) is (before, below, here)

-- no chunk is covered by a receipt of none
pub none_told : (growing : Growing) (given : List (Option ChunkReceipt)) → given ≡ [] → AreReceiptsIn growing given
none_told growing given none =
    subst (λ g. AreReceiptsIn growing g) (sym none) (λ chunk. in_none (λ r. IsReceiptIn growing chunk r))

-- what holds of each value that an option has
pub if_some : {X : Type 0} (o : Option X) (P : X → Type 0) → ForSome o P → IfSome o P
if_some (Some x) P holds = holds x refl
if_some None P holds = tt

module _ (growing : Growing) (given : List (Option ChunkReceipt)) (number : ℕ) where
  -- a chunk that the receipt covers is found by the note of the receipt
  pub covered_found : (one : ChunkReceipt) (known : Option Heap) (result : Option SeenChunk)
      → AreReceiptsIn growing given → get_or given number None ≡ Some one → known ≡ one.note.known
      → IfSome result (λ chunk. chunk.number ≡ number) → IfSome result (λ chunk. IsChunkOf growing chunk)
      → (number < length growing.cells.items → MatchOption result
      (ForSome known (λ heap. ¬ IsShaped heap.shape (shape_in growing number)))
      (λ chunk. ForSome known (λ heap. chunk.heap ≡ heap)))
      → FindsTold growing given number result
  covered_found one known (Some chunk) are is by own of found =
      let here = are number one is in record {
        own = own;
        of = of;
        told = subst (λ o. ForSome o (λ r. chunk.heap ≡ r.receipt.heap)) (sym is)
            (in_some (λ r. chunk.heap ≡ r.receipt.heap) one (found here.few one.receipt.heap (by ∙ here.heap)));
      }
  covered_found one known None are is by own of found =
      let here = are number one is in absurd (found here.few one.receipt.heap (by ∙ here.heap) here.shape)

  -- one that it does not cover is found or not
  pub uncovered_found : (result : Option SeenChunk) → get_or given number None ≡ None
      → IfSome result (λ chunk. chunk.number ≡ number) → IfSome result (λ chunk. IsChunkOf growing chunk)
      → FindsTold growing given number result
  uncovered_found (Some chunk) none own of = record {
    own = own;
    of = of;
    told = subst (λ o. ForSome o (λ r. chunk.heap ≡ r.receipt.heap)) (sym none)
        (in_none (λ r. chunk.heap ≡ r.receipt.heap));
  }
  uncovered_found None none own of = none
