-- What a receipt covers chunk by chunk, and what a caller does that heeds it.
use Rattle.std.proofs.Common.{◌≡◌, ◌≢◌, ℕ, zero, suc, ◌+◌, ◌<◌, ◌≤◌, List, [], ◌∷◌, ◌++◌, Option, Some, None}
use Rattle.std.proofs.Common.{length, get_or, refl, inl, inr, ⊎_elim, arith, sym, ◌∙◌, ap, subst, below_more}
use Rattle.std.specs.Prelude.{IfSome, IsSome}
use Rattle.std.specs.Option.{ForSome}
use Rattle.std.proofs.lemmas.Option.{slice_get_cases}
use Rattle.std.proofs.lemmas.List.{get_or-set_same, get_or-set_other}
use Rattle.once_cell.specs.Once.{Agrees}
use Rattle.sh_pass.specs.Passes.{Caller}
use Rattle.sh_table.specs.Seats.{Heap}
use Rattle.sh_member.specs.declared.member.Side.TheVariants.{Pass, Shard}
use Rattle.sh_member.specs.Sides.{IsOfHeap, IsReceiptBy, SeenSide}
use Rattle.sh_grown.specs.declared.growing.Growing.{Growing}
use Rattle.sh_grown.specs.declared.chunk_member.ChunkMember.{ChunkMember}
use Rattle.sh_grown.specs.declared.receipts.ChunkReceipt.{ChunkReceipt}
use Rattle.sh_grown.specs.Callers.{Meets}
use Rattle.sh_grown.specs.OfChunks.{AreOfChunks, IsCellOf, IsOfChunk, heap_by}
use Rattle.sh_grown.specs.Receipts.{AreReceiptsIn, CoversEach, CoversPlace, HeedsAt, HeedsBelow}
use Rattle.sh_grown.specs.Receipts.{HeedsChunk, HeedsPlace, IsReceiptAt, IsReceiptIn, MeetsAt}
use Rattle.sh_grown.proofs.Full.{met_within}
use Rattle.sh_grown.proofs.Meeting.{met_here, met_other}
use Rattle.sh_grown.proofs.Places.{inside}

-- ---- places

-- what is behind the others is at the number of these
last_is : {X : Type 0} (xs : List X) (x d : X) → get_or (xs ++ x ∷ []) (length xs) d ≡ x
last_is [] x d = refl
last_is (y ∷ ys) x d = last_is ys x d

before_last : {X : Type 0} (xs : List X) (x d : X) (k : ℕ) → k < length xs → get_or (xs ++ x ∷ []) k d ≡ get_or xs k d
before_last [] x d k less = absurd (omega (arith, less))
before_last (y ∷ ys) x d zero less = refl
before_last (y ∷ ys) x d (suc k) less = before_last ys x d k (omega (arith, less))

-- what holds of each holds of one more, if it holds of this one at the end
pub place_more : {X : Type 0} (P : ℕ → X → Type 0) (n : ℕ) (xs : List X) (x d : X) → length xs ≡ n
    → ((k : ℕ) → k < n → P k (get_or xs k d)) → P n x → (k : ℕ) → k < n + 1 → P k (get_or (xs ++ x ∷ []) k d)
place_more P n xs x d count all here =
    below_more (λ k. P k (get_or (xs ++ x ∷ []) k d)) n
    (λ k less. subst (λ y. P k y) (sym (before_last xs x d k (omega (arith, count, less)))) (all k less))
    (subst (λ y. P n y) (sym (subst (λ k. get_or (xs ++ x ∷ []) k d ≡ x) count (last_is xs x d))) here)

pub some_within : {X : Type 0} (xs : List (Option X)) (k : ℕ) (x : X) → get_or xs k None ≡ Some x → k < length xs
some_within [] k x is = absurd (cc)
some_within (y ∷ ys) zero x is = omega arith
some_within (y ∷ ys) (suc k) x is = let less : k < length ys = some_within ys k x is in omega (arith, less)

-- ---- of which chunk a receipt is

-- both are the name of the chunk's cell
cells_same : (growing : Growing) (chunk a b : ℕ) → chunk < length growing.cells.items → IsCellOf growing chunk a
    → IsCellOf growing chunk b → a ≡ b
cells_same growing chunk a b few p q =
    ⊎_elim (λ h. p h.0 h.2 ∙ sym (q h.0 h.2)) (λ h. absurd (omega (arith, few, h.0)))
    (slice_get_cases growing.cells.items chunk).1

at_met : (growing : Growing) (chunk : ℕ) (given : ChunkReceipt) (o : Option ChunkMember)
    → IsReceiptIn growing chunk given
    → ForSome o (λ m. IsOfChunk growing chunk m) → IsSome o → IsReceiptAt given o
at_met growing chunk given (Some m) is of some =
    let here = of m refl in (
      cells_same growing chunk given.note.cell m.note.cell is.few is.cell here.cell,
      is.heap,
      here.heap,
      here.known,
    )
at_met growing chunk given None is of some = absurd (cc)

-- the receipt of a chunk is of what the caller has met there
pub receipt_at_place : (growing : Growing) (chunk : ℕ) (given : ChunkReceipt) (xs : List (Option ChunkMember))
    (found : Option ChunkMember) → IsReceiptIn growing chunk given → AreOfChunks growing xs
    → IsSome (get_or xs chunk None)
    → found ≡ get_or xs chunk found → IsReceiptAt given found
receipt_at_place growing chunk given xs found is all some here =
    let at : found ≡ get_or xs chunk None = here ∙ inside xs chunk found None (met_within xs chunk some) in
    subst (λ o. IsReceiptAt given o) (sym at)
    (at_met growing chunk given (get_or xs chunk None) is (all chunk) some)

-- a receipt is of the heap of the member, if the notes agree
agree : (known given : Option Heap) (h k : Heap) → given ≡ Some h → known ≡ Some k
    → IfSome given (λ x. Agrees known x) → h ≡ k
agree known given h k is here both =
    sym (subst (λ o. IfSome o (λ y. y ≡ h)) here (subst (λ o. IfSome o (λ x. Agrees known x)) is both))

pub of_one_heap : (m : SeenSide) (known given : Option Heap) (heap : Heap) → given ≡ Some heap → known ≡ heap_by m
    → IfSome given (λ x. Agrees known x) → IsSome known → IsOfHeap m heap
of_one_heap (Pass v) known given heap is here both some = agree known given heap v.heap is here both
of_one_heap (Shard o) known given heap is here both some = agree known given heap o.pages.owner.heap is here both

-- ---- what a receipt covers

receipt_heap : (m : SeenSide) (r : Caller) → IsReceiptBy m r → heap_by m ≡ Some r.heap
receipt_heap (Pass v) r is = ap (λ (c : Caller). Some c.heap) (sym is)
receipt_heap (Shard o) r is = ap (λ (c : Caller). Some c.heap) (sym is)

-- with one chunk more
pub covers_more : (n : ℕ) (members : List (Option ChunkMember)) (given : List (Option ChunkReceipt))
    (more : Option ChunkReceipt) → length given ≡ n → CoversEach n members given
    → CoversPlace (get_or members n None) more → CoversEach (n + 1) members (given ++ more ∷ [])
covers_more n members given more count covers here =
    place_more (λ k o. CoversPlace (get_or members k None) o) n given more None count covers here

covered_is : (growing : Growing) (chunk : ℕ) (o : Option ChunkMember) (p : Option ChunkReceipt) (given : ChunkReceipt)
    → chunk < length growing.cells.items → ForSome o (λ m. IsOfChunk growing chunk m) → CoversPlace o p
    → p ≡ Some given → IsReceiptIn growing chunk given
covered_is growing chunk (Some m) (Some r) given few of covers is =
    let here = of m refl in
    let own : IsReceiptIn growing chunk r = record {
      few = few;
      cell = λ c found. ap (λ t. t.cell) covers.note ∙ here.cell c found;
      heap = ap (λ t. t.known) covers.note ∙ (here.heap ∙ receipt_heap m.member r.receipt covers.receipt);
      shape = here.shape r.receipt.heap (here.heap ∙ receipt_heap m.member r.receipt covers.receipt);
    } in
    subst (λ q. ForSome q (λ t. IsReceiptIn growing chunk t)) is
    (λ t e. subst (λ q. IfSome q (λ t. IsReceiptIn growing chunk t)) e own) given refl
covered_is growing chunk (Some m) None given few of covers is = absurd covers
covered_is growing chunk None p given few of covers is = absurd (let e = sym covers ∙ is in cc)

-- each is of its chunk
pub covers_in : (growing : Growing) (n : ℕ) (members : List (Option ChunkMember)) (given : List (Option ChunkReceipt))
    → length given ≡ n → n ≤ length growing.cells.items → AreOfChunks growing members → CoversEach n members given
    → AreReceiptsIn growing given
covers_in growing n members given count few of covers =
    λ chunk r is.
    let less : chunk < length given = some_within given chunk r is in
    covered_is growing chunk (get_or members chunk None) (get_or given chunk None) r
    (omega (arith, less, count, few)) (of chunk) (covers chunk (omega (arith, less, count))) is

-- ---- what a caller does that heeds it

-- nothing is heeded yet
pub heeds_none : (growing : Growing) (number : ℕ) (given : List (Option ChunkReceipt)) (xs : List (Option ChunkMember))
    → HeedsBelow growing number 0 given xs xs
heeds_none growing number given xs = record {
  each = λ chunk less. absurd (omega (arith, less));
  others = λ chunk past. refl;
}

met_same : (growing : Growing) (number chunk : ℕ) (o : Option ChunkMember) → IsSome o → MeetsAt growing number chunk o o
met_same growing number chunk (Some m) some = refl
met_same growing number chunk None some = absurd (cc)

meets_at : (growing : Growing) (number chunk : ℕ) (old met : List (Option ChunkMember))
    → Meets growing number chunk old met
    → MeetsAt growing number chunk (get_or old chunk None) (get_or met chunk None)
meets_at growing number chunk old met (inl h) =
    subst (λ xs. MeetsAt growing number chunk (get_or old chunk None) (get_or xs chunk None)) (sym h.1)
    (met_same growing number chunk (get_or old chunk None) h.0)
meets_at growing number chunk old met (inr h) =
    let here : get_or met chunk None ≡ Some h.1 = ap (λ xs. get_or xs chunk None) h.3 ∙ met_here chunk h.1 old in
    subst (λ o. MeetsAt growing number chunk o (get_or met chunk None)) (sym h.0) (h.1, h.2, here)

meets_others : (growing : Growing) (number chunk : ℕ) (old met : List (Option ChunkMember))
    → Meets growing number chunk old met
    → (j : ℕ) → j ≢ chunk → get_or met j None ≡ get_or old j None
meets_others growing number chunk old met (inl h) j other = ap (λ xs. get_or xs j None) h.1
meets_others growing number chunk old met (inr h) j other =
    ap (λ xs. get_or xs j None) h.3 ∙ met_other chunk j h.1 old other

heeder_is_there : (given : ChunkReceipt) (a b : Option ChunkMember) → HeedsAt given a b → IsSome a
heeder_is_there given (Some m) b heeds = refl
heeder_is_there given None b heeds = absurd heeds

-- what the caller has in the chunk then
heeds_here : (growing : Growing) (number chunk : ℕ) (given : ChunkReceipt) (old new : List (Option ChunkMember))
    → HeedsChunk growing number chunk given old new
    → HeedsPlace growing number chunk (Some given) (get_or old chunk None) (get_or new chunk None)
heeds_here growing number chunk given old new h =
    let less : chunk < length h.met =
    met_within h.met chunk (heeder_is_there given (get_or h.met chunk None) h.after h.does_it) in
    let here : get_or new chunk None ≡ h.after =
    ap (λ xs. get_or xs chunk None) h.others ∙ get_or-set_same h.met chunk h.after None less in (
      get_or h.met chunk None,
      meets_at growing number chunk old h.met h.meets,
      subst (λ o. HeedsAt given (get_or h.met chunk None) o) (sym here) h.does_it,
    )

heeds_others : (growing : Growing) (number chunk : ℕ) (given : ChunkReceipt) (old new : List (Option ChunkMember))
    → HeedsChunk growing number chunk given old new → (j : ℕ) → j ≢ chunk → get_or new j None ≡ get_or old j None
heeds_others growing number chunk given old new h j other =
    ap (λ xs. get_or xs j None) h.others ∙ (get_or-set_other h.met chunk j h.after None other
    ∙ meets_others growing number chunk old h.met h.meets j other)

one_more : (growing : Growing) (number k : ℕ) (given : List (Option ChunkReceipt))
    (old now new : List (Option ChunkMember))
    → HeedsBelow growing number k given old now
    → HeedsPlace growing number k (get_or given k None) (get_or now k None) (get_or new k None)
    → ((j : ℕ) → j ≢ k → get_or new j None ≡ get_or now j None) → HeedsBelow growing number (k + 1) given old new
one_more growing number k given old now new before here apart = record {
  each = below_more
      (λ j. HeedsPlace growing number j (get_or given j None) (get_or old j None) (get_or new j None)) k
      (λ j less. subst (λ o. HeedsPlace growing number j (get_or given j None) (get_or old j None) o)
      (sym (apart j (λ e. omega (arith, less, e)))) (before.each j less))
      (subst (λ o. HeedsPlace growing number k (get_or given k None) o (get_or new k None))
      (before.others k (omega arith)) here);
  others = λ j past. apart j (λ e. omega (arith, past, e)) ∙ before.others j (omega (arith, past));
}

-- one chunk more, of which there is a receipt
pub heeds_more : (growing : Growing) (number k : ℕ) (given : List (Option ChunkReceipt)) (one : ChunkReceipt)
    (old now new : List (Option ChunkMember)) → get_or given k None ≡ Some one
    → HeedsBelow growing number k given old now
    → HeedsChunk growing number k one now new → HeedsBelow growing number (k + 1) given old new
heeds_more growing number k given one old now new is before here =
    one_more growing number k given old now new before
    (subst (λ o. HeedsPlace growing number k o (get_or now k None) (get_or new k None)) (sym is)
    (heeds_here growing number k one now new here))
    (heeds_others growing number k one now new here)

-- the same of which there is none
pub heeds_past : (growing : Growing) (number k : ℕ) (given : List (Option ChunkReceipt))
    (old now : List (Option ChunkMember))
    → get_or given k None ≡ None → HeedsBelow growing number k given old now
    → HeedsBelow growing number (k + 1) given old now
heeds_past growing number k given old now is before =
    one_more growing number k given old now now before
    (subst (λ o. HeedsPlace growing number k o (get_or now k None) (get_or now k None)) (sym is) refl)
    (λ j other. refl)
