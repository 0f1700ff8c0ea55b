-- Each member stays one of its chunk.
use Rattle.std.proofs.Common.{◌≡◌, ℕ, zero, suc, List, [], ◌∷◌, ◌<◌, length, get_or, refl, sym, ◌∙◌, ap, arith, subst}
use Rattle.std.proofs.Common.{Option, Some, None}
use Rattle.std.specs.Prelude.{IfSome, IsSome, Ok, Err, Result, slice_get, slice_set}
use Rattle.std.specs.Option.{ForSome}
use Rattle.once_cell.specs.Once.{cell_name}
use Rattle.sh_chunk.specs.Chunks.{chunked}
use Rattle.sh_value.specs.declared.refusal.Refusal.{Refusal}
use Rattle.sh_pass.specs.Passes.{Caller}
use Rattle.sh_table.specs.Seats.{Heap}
use Rattle.sh_member.specs.declared.member.Side.TheVariants.{Pass, Shard}
use Rattle.sh_shard.specs.Shards.{Sharded}
use Rattle.sh_member.specs.Sides.{SeenSide, SideDoes, SideHeeds}
use Rattle.sh_grown.specs.ChunkShapes.{IsShaped}
use Rattle.sh_grown.specs.Growing.{shape_in}
use Rattle.sh_grown.specs.declared.growing.Growing.{Growing}
use Rattle.sh_grown.specs.declared.chunk_member.ChunkMember.{ChunkMember}
use Rattle.sh_grown.specs.declared.receipts.ChunkReceipt.{ChunkReceipt}
use Rattle.sh_grown.specs.Callers.{IsClaimed, IsNewcomer, IsPooled, MemberDoes, met_in}
use Rattle.sh_grown.specs.Inserts.{InsertsIn}
use Rattle.sh_grown.specs.Keeping.{KeepsMember, SamePlace}
use Rattle.sh_grown.specs.OfChunks.{AreOfChunks, IsOfChunk, heap_by, heap_of}
use Rattle.sh_grown.specs.Receipts.{HeedsAt}

-- ---- in a list

-- what holds of a value holds of what an option has that has it
pub in_some : {X : Type 0} (P : X → Type 0) (x : X) → P x → ForSome (Some x) P
in_some P x holds = λ y is. subst (λ o. IfSome o P) is holds

pub in_none : {X : Type 0} (P : X → Type 0) → ForSome None P
in_none P = λ y is. absurd (cc)

-- one place is written
each_set : {X : Type 0} (P : ℕ → X → Type 0) (xs : List (Option X)) (i : ℕ) (place : Option X)
    → ((k : ℕ) → ForSome (get_or xs k None) (P k)) → ForSome place (P i) → (k : ℕ)
    → ForSome (get_or (slice_set xs i place) k None) (P k)
each_set P [] i place all here k = all k
each_set P (x ∷ xs) zero place all here zero = here
each_set P (x ∷ xs) zero place all here (suc k) = all (suc k)
each_set P (x ∷ xs) (suc i) place all here zero = all zero
each_set P (x ∷ xs) (suc i) place all here (suc k) = each_set (λ j. P (suc j)) xs i place (λ j. all (suc j)) here k

-- one chunk is met
each_met : (P : ℕ → ChunkMember → Type 0) (xs : List (Option ChunkMember)) (i : ℕ) (m : ChunkMember)
    → ((k : ℕ) → ForSome (get_or xs k None) (P k)) → P i m → (k : ℕ) → ForSome (get_or (met_in i m xs) k None) (P k)
each_met P [] zero m all here zero = in_some (P zero) m here
each_met P [] zero m all here (suc k) = in_none (P (suc k))
each_met P (x ∷ xs) zero m all here zero = in_some (P zero) m here
each_met P (x ∷ xs) zero m all here (suc k) = all (suc k)
each_met P [] (suc i) m all here zero = in_none (P zero)
each_met P [] (suc i) m all here (suc k) = each_met (λ j. P (suc j)) [] i m (λ j. in_none (P (suc j))) here k
each_met P (x ∷ xs) (suc i) m all here zero = all zero
each_met P (x ∷ xs) (suc i) m all here (suc k) = each_met (λ j. P (suc j)) xs i m (λ j. all (suc j)) here k

-- the same, if what was found there is kept so
each_kept : {X : Type 0} (P : ℕ → X → Type 0) (xs : List (Option X)) (i : ℕ) (found place : Option X)
    → ((k : ℕ) → ForSome (get_or xs k None) (P k)) → found ≡ get_or xs i found
    → (ForSome found (P i) → ForSome place (P i)) → (k : ℕ)
    → ForSome (get_or (slice_set xs i place) k None) (P k)
each_kept P [] i found place all is keeps k = all k
each_kept P (x ∷ xs) zero found place all is keeps k =
    each_set P (x ∷ xs) zero place all (keeps (subst (λ o. ForSome o (P zero)) (sym is) (all zero))) k
each_kept P (x ∷ xs) (suc i) found place all is keeps zero = all zero
each_kept P (x ∷ xs) (suc i) found place all is keeps (suc k) =
    each_kept (λ j. P (suc j)) xs i found place (λ j. all (suc j)) is keeps k

-- ---- what keeps the heap of a member

side_keeps : {A : Type 0} (does : Caller → Result A Refusal → Caller → Type 0) (a b : SeenSide)
    (answer : Result A Refusal) → SideDoes chunked does a answer b → heap_by b ≡ heap_by a
side_keeps does (Pass v) (Pass w) answer h = ap Some h.1.heap
side_keeps does (Pass v) (Shard n) answer h = absurd h
side_keeps does (Shard o) (Shard n) answer h = ap Some h.1.remains.heap
side_keeps does (Shard o) (Pass w) answer h = absurd h

pub insert_keeps : (value : List ℕ) (a b : SeenSide) (answer : Result ℕ Refusal) → InsertsIn value a answer b
    → heap_by b ≡ heap_by a
insert_keeps value (Pass v) b (Ok key) h = ap heap_by h.1
insert_keeps value (Pass v) b (Err why) h = ap heap_by h.1
insert_keeps value (Shard o) (Shard n) (Ok key) h = ap Some h.1.remains.heap
insert_keeps value (Shard o) (Shard n) (Err why) h = ap Some h.1.remains.heap
insert_keeps value (Shard o) (Pass w) (Ok key) h = absurd h
insert_keeps value (Shard o) (Pass w) (Err why) h = absurd h

heed_keeps : (r : Caller) (a b : SeenSide) → SideHeeds chunked r a b → heap_by b ≡ heap_by a
heed_keeps r (Pass v) (Pass w) h = ap (λ (c : Caller). Some c.heap) h.0
heed_keeps r (Pass v) (Shard n) h = absurd h
heed_keeps r (Shard o) (Shard n) h = ap (λ (s : Sharded). Some s.pages.owner.heap) h.0
heed_keeps r (Shard o) (Pass w) h = absurd h

-- ---- of what a caller has in a chunk

same_chunk : (growing : Growing) (chunk : ℕ) (m n : ChunkMember) → IsOfChunk growing chunk m
    → heap_by n.member ≡ heap_by m.member → SamePlace m n → IsOfChunk growing chunk n
same_chunk growing chunk m n is heap same = record {
  few = is.few;
  cell = λ c found. ap (λ t. t.cell) same.1 ∙ is.cell c found;
  heap = ap (λ t. t.known) same.1 ∙ (is.heap ∙ sym heap);
  known = subst (λ (k : Option Heap). IsSome k) (sym (ap (λ t. t.known) same.1)) is.known;
  shape = λ h found. is.shape h (sym (ap (λ t. t.known) same.1) ∙ found);
  shards = same.2 ∙ is.shards;
}

still_of : (growing : Growing) (chunk : ℕ) (m n : ChunkMember) → heap_by n.member ≡ heap_by m.member → SamePlace m n
    → ForSome (Some m) (λ k. IsOfChunk growing chunk k) → ForSome (Some n) (λ k. IsOfChunk growing chunk k)
still_of growing chunk m n heap same is =
    in_some (λ k. IsOfChunk growing chunk k) n (same_chunk growing chunk m n (is m refl) heap same)

does_keeps : {A : Type 0} (does : Caller → Result A Refusal → Caller → Type 0) (growing : Growing) (chunk : ℕ)
    (a b : Option ChunkMember) (answer : Result A Refusal) → MemberDoes (SideDoes chunked does) a answer b
    → ForSome a (λ m. IsOfChunk growing chunk m) → ForSome b (λ m. IsOfChunk growing chunk m)
does_keeps does growing chunk (Some m) (Some n) answer h is =
    still_of growing chunk m n (side_keeps does m.member n.member answer h.0) h.1 is
does_keeps does growing chunk (Some m) None answer h is = absurd h
does_keeps does growing chunk None b answer h is = absurd h

inserts_keeps : (value : List ℕ) (growing : Growing) (chunk : ℕ) (a b : Option ChunkMember) (answer : Result ℕ Refusal)
    → MemberDoes (InsertsIn value) a answer b → ForSome a (λ m. IsOfChunk growing chunk m)
    → ForSome b (λ m. IsOfChunk growing chunk m)
inserts_keeps value growing chunk (Some m) (Some n) answer h is =
    still_of growing chunk m n (insert_keeps value m.member n.member answer h.0) h.1 is
inserts_keeps value growing chunk (Some m) None answer h is = absurd h
inserts_keeps value growing chunk None b answer h is = absurd h

place_keeps : (growing : Growing) (chunk : ℕ) (a b : Option ChunkMember) → (IsSome b → IsSome a) → KeepsMember a b
    → ForSome a (λ m. IsOfChunk growing chunk m) → ForSome b (λ m. IsOfChunk growing chunk m)
place_keeps growing chunk (Some m) (Some n) was kept is = still_of growing chunk m n (ap heap_of kept.0) kept.1 is
place_keeps growing chunk (Some m) None was kept is = absurd kept
place_keeps growing chunk None (Some n) was kept is = absurd (let e = was refl in cc)
place_keeps growing chunk None None was kept is = is

heeder_keeps : (given : ChunkReceipt) (growing : Growing) (chunk : ℕ) (a b : Option ChunkMember) → HeedsAt given a b
    → ForSome a (λ m. IsOfChunk growing chunk m) → ForSome b (λ m. IsOfChunk growing chunk m)
heeder_keeps given growing chunk (Some m) (Some n) h is =
    still_of growing chunk m n (heed_keeps given.receipt m.member n.member h.0) h.1 is
heeder_keeps given growing chunk (Some m) None h is = absurd h
heeder_keeps given growing chunk None b h is = absurd h

pooled_is : (growing : Growing) (heap : Heap) (number chunk : ℕ) (m : ChunkMember)
    → chunk < length growing.cells.items → IsPooled heap number m
    → m.note.known ≡ Some heap → IfSome (slice_get growing.cells.items chunk) (λ c. m.note.cell ≡ cell_name c)
    → IsShaped heap.shape (shape_in growing chunk) → IsOfChunk growing chunk m
pooled_is growing heap number chunk m few pooled seen cell shape = record {
  few = few;
  cell = λ c found. subst (λ o. IfSome o (λ x. m.note.cell ≡ cell_name x)) found cell;
  heap = seen ∙ (ap Some (sym pooled.of) ∙ ap heap_by (sym pooled.member));
  known = subst (λ (k : Option Heap). IsSome k) (sym seen) refl;
  shape = λ h found.
      in_some (λ (k : Heap). IsShaped k.shape (shape_in growing chunk)) heap shape h (sym seen ∙ found);
  shards = pooled.shards ∙ shape.shards;
}

newcomer_is : (growing : Growing) (number chunk : ℕ) (m : ChunkMember) → chunk < length growing.cells.items
    → IsNewcomer growing number chunk m → IsOfChunk growing chunk m
newcomer_is growing number chunk m few is =
    pooled_is growing is.heap number chunk m few is.pooled is.seen is.cell is.shape

-- ---- of all that a caller has

-- after a call of the member of one chunk
pub does_of : {A : Type 0} (does : Caller → Result A Refusal → Caller → Type 0) (growing : Growing)
    (xs : List (Option ChunkMember)) (i : ℕ) (found place : Option ChunkMember) (answer : Result A Refusal)
    → AreOfChunks growing xs
    → found ≡ get_or xs i found → MemberDoes (SideDoes chunked does) found answer place
    → AreOfChunks growing (slice_set xs i place)
does_of does growing xs i found place answer all is h =
    each_kept (λ k m. IsOfChunk growing k m) xs i found place all is
    (does_keeps does growing i found place answer h)

-- after its insert
pub inserts_of : (value : List ℕ) (growing : Growing) (xs : List (Option ChunkMember)) (i : ℕ)
    (found place : Option ChunkMember)
    (answer : Result ℕ Refusal) → AreOfChunks growing xs → found ≡ get_or xs i found
    → MemberDoes (InsertsIn value) found answer place → AreOfChunks growing (slice_set xs i place)
inserts_of value growing xs i found place answer all is h =
    each_kept (λ k m. IsOfChunk growing k m) xs i found place all is
    (inserts_keeps value growing i found place answer h)

-- after it heeded a receipt
pub heeds_of : (given : ChunkReceipt) (growing : Growing) (xs : List (Option ChunkMember)) (i : ℕ)
    (found place : Option ChunkMember)
    → AreOfChunks growing xs → found ≡ get_or xs i found → HeedsAt given found place
    → AreOfChunks growing (slice_set xs i place)
heeds_of given growing xs i found place all is h =
    each_kept (λ k m. IsOfChunk growing k m) xs i found place all is (heeder_keeps given growing i found place h)

-- after a call that keeps what the caller has there
pub keeps_of : (growing : Growing) (xs : List (Option ChunkMember)) (i : ℕ) (found place : Option ChunkMember)
    → AreOfChunks growing xs → found ≡ get_or xs i found → (IsSome place → IsSome found) → KeepsMember found place
    → AreOfChunks growing (slice_set xs i place)
keeps_of growing xs i found place all is was kept =
    each_kept (λ k m. IsOfChunk growing k m) xs i found place all is (place_keeps growing i found place was kept)

-- after a look at what the caller has there
pub stays_of : (growing : Growing) (xs : List (Option ChunkMember)) (i : ℕ) (place : Option ChunkMember)
    → AreOfChunks growing xs → place ≡ get_or xs i place → AreOfChunks growing (slice_set xs i place)
stays_of growing xs i place all is = each_kept (λ k m. IsOfChunk growing k m) xs i place place all is (λ here. here)

-- a call that needs a member finds one
pub member_there : {A : Type 0} (does : SeenSide → Result A Refusal → SeenSide → Type 0) (a b : Option ChunkMember)
    (answer : Result A Refusal) → MemberDoes does a answer b → IsSome a
member_there does (Some m) b answer h = refl
member_there does None b answer h = absurd h

-- after a meeting
pub meets_of : (growing : Growing) (heap : Heap) (number : ℕ) (xs : List (Option ChunkMember)) (i : ℕ) (m : ChunkMember)
    → AreOfChunks growing xs → i < length growing.cells.items → IsPooled heap number m → m.note.known ≡ Some heap
    → IfSome (slice_get growing.cells.items i) (λ c. m.note.cell ≡ cell_name c)
    → IsShaped heap.shape (shape_in growing i) → AreOfChunks growing (met_in i m xs)
meets_of growing heap number xs i m all few pooled seen cell shape =
    each_met (λ k n. IsOfChunk growing k n) xs i m all (pooled_is growing heap number i m few pooled seen cell shape)

claimed_of : (growing : Growing) (number : ℕ) (members : List (Option ChunkMember)) → IsClaimed growing number members
    → (chunk : ℕ) → ForSome (get_or members chunk None) (λ m. IsOfChunk growing chunk m)
claimed_of growing number members is zero =
    let least = growing.some_chunk in
    let some : 0 < length growing.cells.items = omega (arith, least) in
    subst (λ o. ForSome o (λ m. IsOfChunk growing 0 m)) (sym is.met)
    (in_some (λ m. IsOfChunk growing 0 m) is.first (newcomer_is growing number 0 is.first some is.newcomer))
claimed_of growing number members is (suc k) =
    subst (λ o. ForSome o (λ m. IsOfChunk growing (suc k) m)) (sym (is.others (suc k) (omega arith)))
    (in_none (λ m. IsOfChunk growing (suc k) m))

-- after a claim, of a growing heap by another name
pub claims_of : (found asked kept : Growing) (number : ℕ) (members : List (Option ChunkMember))
    → IsClaimed found number members → found ≡ asked → kept ≡ asked → AreOfChunks kept members
claims_of found asked kept number members is same own =
    subst (λ (x : Growing). AreOfChunks x members) (same ∙ sym own) (claimed_of found number members is)
