-- What a pass's handle holds: a pass of a heap of a fixed shape, or a caller of one that grows; and what its calls do.
use Rattle.std.specs.Prelude.{◌≡◌, ℕ, ◌<◌, List, Option, None, Result, Ok, Err, IfErr, OnErr, OnOk, get_or, length}
use Rattle.std.specs.Option.{IfSome, MatchOption}
use Rattle.sh_value.specs.declared.hold.Hold.{Hold}
use Rattle.sh_value.specs.declared.refusal.Refusal.{Refusal}
use Rattle.sh_value.specs.declared.refusal.Refusal.TheVariants as refusal
use Rattle.sh_chunk.specs.Chunks.{chunked, chunk_of, key_within}
use Rattle.sh_table.specs.Seats.{Heap}
use Rattle.sh_pass.specs.Passes.{Caller, GetDoes, ReadDoes, RemoveDoes, ReleaseDoes}
use Rattle.sh_pass.specs.Fetching.{FetchDoes}
use Rattle.sh_member.specs.Readers.{TakeFitsDoes}
use Rattle.sh_member.specs.Walks.{NextHeldDoes, NextLiveDoes}
use Rattle.sh_member.specs.declared.walking.NextHeld.{NextHeld}
use Rattle.sh_member.specs.declared.walking.NextLive.{NextLive}
use Rattle.sh_member.specs.Sides.{SeenSide, SideDoes, SideInserts, SidePrepares, SideCollects, SideAdopts, SideLeaves}
use Rattle.sh_member.specs.Sides.{IsPass, IsOfHeap, IsReceiptBy}
use Rattle.sh_grown.specs.declared.caller.Caller.{Caller as SeenCaller}
use Rattle.sh_grown.specs.Callers.{GetsIn, GrownDoes, Stays}
use Rattle.sh_grown.specs.Collecting.{CollectsBelow}
use Rattle.sh_grown.specs.Inserts.{Inserts, OwnsNone}
use Rattle.sh_grown.specs.Keeping.{KeepsMembers}
use Rattle.sh_grown.specs.Leaving.{LeavesIdle, StopsBelow}
use Rattle.sh_grown.specs.Receipts.{AreReceiptsIn, CoversEach, Heeds}
use Rattle.sh_grown.specs.Walks.{CallerWalks, HeldIn, LiveIn}
use Rattle.sh_grown.specs.declared.receipts.GrownReceipt.{GrownReceipt}
use Rattle.c_handles.specs.declared.held_pass.HeldPass.{HeldPass}
use Rattle.c_handles.specs.declared.held_pass.HeldPass.TheVariants as held
use Rattle.c_handles.specs.declared.receipts.KeptReceipt.{KeptReceipt}
use Rattle.c_handles.specs.declared.receipts.KeptReceipt.TheVariants as kept
use Rattle.c_handles.specs.Members.{AnyDoes, AnyHeeds, side_of}

-- a call that stays with the kind: a caller does the second, and a pass of a heap of a fixed shape does the first
abbrev pub OfKind : {A : Type 0} → (HeldPass → Result A Refusal → HeldPass → Type 0)
    → (SeenCaller → Result A Refusal → SeenCaller → Type 0) → HeldPass → Result A Refusal → HeldPass → Type 0
OfKind fixed grows (held.Growing c) answer (held.Growing d) = grows c answer d
OfKind fixed grows (held.Growing c) answer n = ⊥
OfKind fixed grows m answer n = fixed m answer n

pub record EitherDoes {A : Type 0} (fixed : HeldPass → Result A Refusal → HeldPass → Type 0)
    (grows : SeenCaller → Result A Refusal → SeenCaller → Type 0) (m : HeldPass) (answer : Result A Refusal)
    (n : HeldPass) : Type 0 where
  pub does_it : OfKind fixed grows m answer n

-- ---- calls on keys

-- the caller's member in the chunk of this key does it
abbrev pub OnKey : {A : Type 0} → (SeenSide → Result A Refusal → SeenSide → Type 0) → (key : ℕ) → SeenCaller
    → Result A Refusal → SeenCaller → Type 0
OnKey does key c answer d =
    GrownDoes does c.growing c.number (chunk_of key) c.met.items answer d.met.items × Stays c d

abbrev pub HeldGets : ℕ → HeldPass → Result Hold Refusal → HeldPass → Type 0
HeldGets key = EitherDoes (AnyDoes (λ l. SideDoes l (GetDoes l key))) (OnKey (SideDoes chunked (GetsIn key)) key)

abbrev pub HeldReads : ℕ → HeldPass → Result (List ℕ) Refusal → HeldPass → Type 0
HeldReads key =
    EitherDoes (AnyDoes (λ l. SideDoes l (ReadDoes key))) (OnKey (SideDoes chunked (ReadDoes (key_within key))) key)

abbrev pub HeldReleases : ℕ → HeldPass → Result (Unit {0}) Refusal → HeldPass → Type 0
HeldReleases key =
    EitherDoes (AnyDoes (λ l. SideDoes l (ReleaseDoes l key)))
    (OnKey (SideDoes chunked (ReleaseDoes chunked (key_within key))) key)

abbrev pub HeldFetches : ℕ → HeldPass → Result (List ℕ) Refusal → HeldPass → Type 0
HeldFetches key =
    EitherDoes (AnyDoes (λ l. SideDoes l (FetchDoes l key)))
    (OnKey (SideDoes chunked (FetchDoes chunked (key_within key))) key)

abbrev pub HeldTakes : (key most : ℕ) → HeldPass → Result (List ℕ) Refusal → HeldPass → Type 0
HeldTakes key most =
    EitherDoes (AnyDoes (λ l. SideDoes l (TakeFitsDoes l key most)))
    (OnKey (SideDoes chunked (TakeFitsDoes chunked (key_within key) most)) key)

abbrev pub HeldRemoves : ℕ → HeldPass → Result (Unit {0}) Refusal → HeldPass → Type 0
HeldRemoves key =
    EitherDoes (AnyDoes (λ l. SideDoes l (RemoveDoes l key)))
    (OnKey (SideDoes chunked (RemoveDoes chunked (key_within key))) key)

-- the same for a call that fills a value: what it does with the key in a heap of this layout
abbrev pub FillsByKey : {A : Type 0} → (fixed : HeldPass → Result A Refusal → HeldPass → Type 0)
    → (Caller → Result A Refusal → Caller → Type 0) → (key : ℕ) → HeldPass → Result A Refusal → HeldPass → Type 0
FillsByKey fixed grows key = EitherDoes fixed (OnKey (SideDoes chunked grows) key)

-- ---- calls of the owner of a shard

-- no shard of a heap that grows has a number that a caller could name: nothing is done
abbrev pub NamesNoShard : {A : Type 0} → SeenCaller → Result A Refusal → SeenCaller → Type 0
NamesNoShard c answer d = (answer ≡ Err refusal.NoShard) × (d ≡ c)

abbrev pub HeldAdopts : ℕ → HeldPass → Result (Unit {0}) Refusal → HeldPass → Type 0
HeldAdopts shard = EitherDoes (AnyDoes (λ l. SideAdopts shard)) NamesNoShard

abbrev pub HeldPrepares : ℕ → HeldPass → Result ℕ Refusal → HeldPass → Type 0
HeldPrepares class = EitherDoes (AnyDoes (λ l. SidePrepares l class)) NamesNoShard

-- a caller inserts over the chunks of its heap
abbrev pub CallerInserts : List ℕ → SeenCaller → Result ℕ Refusal → SeenCaller → Type 0
CallerInserts value c answer d =
    Inserts (length c.growing.cells.items) value c.met.items answer d.met.items × Stays c d

abbrev pub HeldInserts : List ℕ → HeldPass → Result ℕ Refusal → HeldPass → Type 0
HeldInserts value = EitherDoes (AnyDoes (λ l. SideInserts l value)) (CallerInserts value)

-- a caller keeps its heap, and the heap, log and holds of each of its members
abbrev pub CallerKeeps : SeenCaller → SeenCaller → Type 0
CallerKeeps c d = KeepsMembers c.met.items d.met.items × Stays c d

-- a caller collects in each shard that it owns
abbrev pub CallerCollects : SeenCaller → Result (Unit {0}) Refusal → SeenCaller → Type 0
CallerCollects c answer d = (answer ≡ Ok tt)
    × CollectsBelow (length c.growing.cells.items) c.met.items d.met.items × CallerKeeps c d

abbrev pub HeldCollects : HeldPass → Result (Unit {0}) Refusal → HeldPass → Type 0
HeldCollects = EitherDoes (AnyDoes SideCollects) CallerCollects

-- a caller leaves its shards, so that it owns none; or another caller is in the middle of a free in one, which it keeps
abbrev pub CallerLeaves : SeenCaller → Result (Unit {0}) Refusal → SeenCaller → Type 0
CallerLeaves c answer d =
    OnOk answer ((chunk : ℕ) → chunk < length d.met.items → OwnsNone (get_or d.met.items chunk None))
    × IfErr answer (λ why. why ≡ refusal.Waiting)
    × OnErr answer (StopsBelow (length c.met.items) c.met.items d.met.items) × CallerKeeps c d

abbrev pub HeldLeaves : HeldPass → Result (Unit {0}) Refusal → HeldPass → Type 0
HeldLeaves = EitherDoes (AnyDoes (λ l. SideLeaves)) CallerLeaves

-- a caller leaves each of its shards in which no other caller is in the middle of a free
abbrev pub CallerLeavesIdle : SeenCaller → Result (Unit {0}) Refusal → SeenCaller → Type 0
CallerLeavesIdle c answer d = LeavesIdle (length c.met.items) c.met.items answer d.met.items × CallerKeeps c d

abbrev pub HeldLeavesIdle : HeldPass → Result (Unit {0}) Refusal → HeldPass → Type 0
HeldLeavesIdle = EitherDoes (AnyDoes (λ l. SideLeaves)) CallerLeavesIdle

-- ---- walks

-- a call that is never refused
abbrev pub Unrefused : {A : Type 0} → (Caller → A → Caller → Type 0) → Caller → Result A Refusal → Caller → Type 0
Unrefused does v (Ok answer) w = does v answer w
Unrefused does v (Err why) w = ⊥

abbrev pub HeldNextLive : (from before : ℕ) → HeldPass → Result (Option NextLive) Refusal → HeldPass → Type 0
HeldNextLive from before = EitherDoes (AnyDoes (λ l. SideDoes l (Unrefused (NextLiveDoes l from before))))
    (CallerWalks (LiveIn from before) from before)

abbrev pub HeldNextHeld : (from before : ℕ) → HeldPass → Result (Option NextHeld) Refusal → HeldPass → Type 0
HeldNextHeld from before = EitherDoes (AnyDoes (λ l. SideDoes l (NextHeldDoes l from before)))
    (CallerWalks (HeldIn from before) from before)

-- ---- giving back

-- a pass keeps its shard, and a caller leaves its shards
abbrev pub KeepsShard : HeldPass → Result (Unit {0}) Refusal → HeldPass → Type 0
KeepsShard m answer n = (answer ≡ Ok tt) × (n ≡ m)

abbrev pub LeavesShards : HeldPass → Result (Unit {0}) Refusal → HeldPass → Type 0
LeavesShards = EitherDoes KeepsShard CallerLeavesIdle

-- a pass may be given back if it owns no shard, and a caller always
abbrev pub MayBeGivenBack : HeldPass → Type 0
MayBeGivenBack m = IfSome (side_of m) IsPass

-- it was given back, or it is returned as it was
abbrev pub HeldGives : HeldPass → Result (Unit {0}) HeldPass → Type 0
HeldGives p (Ok _) = MayBeGivenBack p
HeldGives p (Err q) = q ≡ p

-- ---- receipts

-- a receipt of all results of a pass; or of a caller, in each chunk that it has met
abbrev pub IsReceiptOf : HeldPass → KeptReceipt → Type 0
IsReceiptOf (held.Growing c) (kept.Growing r) =
    CoversEach (length c.growing.cells.items) c.met.items r.chunks.items × AreReceiptsIn c.growing r.chunks.items
IsReceiptOf (held.Growing c) (kept.Fixed r) = ⊥
IsReceiptOf m (kept.Fixed r) = MatchOption (side_of m) ⊥ (λ s. IsReceiptBy s r)
IsReceiptOf m (kept.Growing r) = ⊥

-- a pass is as it was; a caller keeps its heap, and what it has in its chunks is as it was
abbrev pub IsAsBefore : HeldPass → HeldPass → Type 0
IsAsBefore (held.Growing c) (held.Growing d) = (d.met.items ≡ c.met.items) × Stays c d
IsAsBefore (held.Growing c) n = ⊥
IsAsBefore m n = n ≡ m

-- the heap of a fixed shape that a pass is of
abbrev pub IsOfFixed : HeldPass → Heap → Type 0
IsOfFixed m heap = MatchOption (side_of m) ⊥ (λ s. IsOfHeap s heap)

-- the receipt is of the growing heap that a caller is of
abbrev pub IsOfGrown : HeldPass → GrownReceipt → Type 0
IsOfGrown (held.Growing c) receipt = AreReceiptsIn c.growing receipt.chunks.items
IsOfGrown m receipt = ⊥

-- the receipt is of the heap of the pass or the caller: a pass is of no growing heap, and a caller of no other
abbrev pub IsOfHeldHeap : HeldPass → KeptReceipt → Type 0
IsOfHeldHeap m (kept.Fixed r) = IsOfFixed m r.heap
IsOfHeldHeap m (kept.Growing r) = IsOfGrown m r

-- a pass heeded the receipt; a caller heeds none of a pass, and is as it was
abbrev pub HeedsFixed : Caller → HeldPass → HeldPass → Type 0
HeedsFixed receipt (held.Growing c) (held.Growing d) = d ≡ c
HeedsFixed receipt (held.Growing c) n = ⊥
HeedsFixed receipt m n = AnyHeeds receipt m n

-- a caller heeded the receipt, in each chunk of it; a pass heeds none of a caller, and is as it was
abbrev pub HeedsGrown : GrownReceipt → HeldPass → Result (Unit {0}) Refusal → HeldPass → Type 0
HeedsGrown receipt (held.Growing c) answer (held.Growing d) =
    Heeds c.growing c.number receipt.chunks.items c.met.items answer d.met.items × Stays c d
HeedsGrown receipt (held.Growing c) answer n = ⊥
HeedsGrown receipt m answer n = (answer ≡ Ok tt) × (n ≡ m)

-- a heed: a pass is never refused, and a caller as Taken alone
abbrev pub HeldHeeds : KeptReceipt → HeldPass → Result (Unit {0}) Refusal → HeldPass → Type 0
HeldHeeds (kept.Fixed r) m answer n = (answer ≡ Ok tt) × HeedsFixed r m n
HeldHeeds (kept.Growing r) m answer n = HeedsGrown r m answer n
