-- What the codes mean for opening a heap, taking a pass and giving it back.
use Rattle.std.specs.Prelude.{◌≡◌, ℕ, ◌<◌, ◌⊎◌, Result, Ok, Err, Option, Some, None}
use Rattle.sh_key.specs.Layout.{Layout}
use Rattle.sh_value.specs.declared.refusal.Refusal.{Refusal}
use Rattle.sh_value.specs.Refusal.{refusal_number}
use Rattle.c_handles.specs.declared.heap.LayoutName.{LayoutName}
use Rattle.c_handles.specs.declared.held_heap.HeldHeap.{HeldHeap}
use Rattle.c_handles.specs.declared.held_pass.HeldPass.{HeldPass}
use Rattle.c_handles.specs.Heaps.{layout_named, layout_number}
use Rattle.c_handles.specs.HeldHeaps.{HeldBegins, OpensGrown, layout_by}
use Rattle.c_handles.specs.HeldPasses.{LeavesShards, MayBeGivenBack}

-- what an empty handle has after an opening with this code: the heap, or nothing if the opening was refused
abbrev pub PutOpened : (Result HeldHeap Refusal → Type 0) → ℕ → Option HeldHeap → Type 0
PutOpened opens code (Some heap) = (code ≡ 0) × opens (Ok heap)
PutOpened opens code None = (why : Refusal) × (code ≡ refusal_number why) × opens (Err why)

-- what an empty handle has after the opened heap was put into it; memory for this may be refused
abbrev pub HeapPut : Result HeldHeap Refusal → ℕ → Option HeldHeap → Type 0
HeapPut (Ok heap) code after = ((code ≡ 0) × (after ≡ Some heap)) ⊎ ((code ≡ 8) × (after ≡ None))
HeapPut (Err why) code after = (code ≡ refusal_number why) × (after ≡ None)

-- an opening of the layout of this number, by its code: a full handle stays as it was, and so does an empty one if
-- there is no such layout
abbrev pub OpenTold : (Layout → Result HeldHeap Refusal → Type 0) → (number code : ℕ) → Option HeldHeap
    → Option HeldHeap → Type 0
OpenTold opens number code (Some heap) after = (code ≡ 15) × (after ≡ Some heap)
OpenTold opens number code None after = ((3 < number) × (code ≡ 19) × (after ≡ None))
    ⊎ ((name : LayoutName) × (layout_number name ≡ number) × PutOpened (opens (layout_named name)) code after)

-- the opening of a growing heap, by its code: a full handle stays as it was
abbrev pub OpensGrowing : (owners values words passes chunks code : ℕ) → Option HeldHeap → Option HeldHeap → Type 0
OpensGrowing owners values words passes chunks code (Some heap) after = (code ≡ 15) × (after ≡ Some heap)
OpensGrowing owners values words passes chunks code None after =
    PutOpened (OpensGrown owners values words passes chunks) code after

-- a share by its code: a full other handle stays as it was, and so do both if there is no heap; otherwise the heap
-- stays in its own handle, and is in the other too, unless memory was refused
abbrev pub ShareTold : ℕ → Option HeldHeap → Option HeldHeap → Option HeldHeap → Option HeldHeap → Type 0
ShareTold code heap left (Some h) after = (code ≡ 15) × (left ≡ heap) × (after ≡ Some h)
ShareTold code None left None after = (code ≡ 14) × (left ≡ None) × (after ≡ None)
ShareTold code (Some heap) left None after = (left ≡ Some heap)
    × (((code ≡ 0) × (after ≡ Some heap)) ⊎ ((code ≡ 8) × (after ≡ None)))

-- a number of which this is true for the heap, or 0 if there is no heap
abbrev pub KnowsHeap : (HeldHeap → ℕ → Type 0) → ℕ → Option HeldHeap → Option HeldHeap → Type 0
KnowsHeap is number None after = (number ≡ 0) × (after ≡ None)
KnowsHeap is number (Some heap) after = is heap number × (after ≡ Some heap)

-- the number of the heap's layout is written, if there is a heap
abbrev pub LayoutTold : (code old new : ℕ) → Option HeldHeap → Option HeldHeap → Type 0
LayoutTold code old new None after = (code ≡ 14) × (after ≡ None) × (new ≡ old)
LayoutTold code old new (Some heap) after = (code ≡ 0) × (after ≡ Some heap) × (new ≡ layout_by heap)

-- the handle has a pass of the heap at rest, with a pool slot
abbrev pub HasBegun : HeldHeap → Option HeldPass → Type 0
HasBegun heap o = (m : HeldPass) × (o ≡ Some m) × HeldBegins heap m

-- what an empty handle of a pass has after a take from this heap: a pass at rest, or nothing if no pass was found or
-- memory was refused
abbrev pub TakesPass : HeldHeap → ℕ → Option HeldPass → Type 0
TakesPass heap code (Some m) = (code ≡ 0) × HeldBegins heap m
TakesPass heap code None = (code ≡ 16) ⊎ (code ≡ 8)

-- a take by its code: a full handle of a pass stays as it was, and so do both handles if there is no heap
abbrev pub TakeTold : ℕ → Option HeldHeap → Option HeldHeap → Option HeldPass → Option HeldPass → Type 0
TakeTold code heap left (Some m) after = (code ≡ 15) × (left ≡ heap) × (after ≡ Some m)
TakeTold code None left None after = (code ≡ 14) × (left ≡ None) × (after ≡ None)
TakeTold code (Some heap) left None after = (left ≡ Some heap) × TakesPass heap code after

-- the pass was not given back, since its pool slot is not free: it is in its handle again, unless memory was refused
abbrev pub IsPutBack : HeldPass → ℕ → Option HeldPass → Type 0
IsPutBack m code after = ((code ≡ 15) × (after ≡ Some m)) ⊎ ((code ≡ 8) × (after ≡ None))

-- what is done with a pass that let go: it was given back, or stays in its handle since it owns a shard
abbrev pub GivesBack : ℕ → Option HeldPass → Option HeldPass → Type 0
GivesBack code None after = (code ≡ 14) × (after ≡ None)
GivesBack code (Some m) after = ((¬ MayBeGivenBack m) × (code ≡ 20) × (after ≡ Some m))
    ⊎ (MayBeGivenBack m × (((code ≡ 0) × (after ≡ None)) ⊎ IsPutBack m code after))

-- the same of a caller that may have to wait before it leaves its shards: then it stays in its handle
abbrev pub GivenBy : Result (Unit {0}) Refusal → HeldPass → ℕ → Option HeldPass → Type 0
GivenBy (Ok _) m code after = GivesBack code (Some m) after
GivenBy (Err why) m code after = (code ≡ refusal_number why) × (after ≡ Some m)

-- a give by its code: first a caller of a growing heap leaves its shards, and a pass stays as it was
abbrev pub GiveTold : ℕ → Option HeldPass → Option HeldPass → Type 0
GiveTold code None after = (code ≡ 14) × (after ≡ None)
GiveTold code (Some m) after = (answer : Result (Unit {0}) Refusal) × ((n : HeldPass) × LeavesShards m answer n
    × GivenBy answer n code after)

-- a loss of a pass, by its code: the handle is empty afterwards
abbrev pub LoseTold : ℕ → Option HeldPass → Option HeldPass → Type 0
LoseTold code None after = (code ≡ 14) × (after ≡ None)
LoseTold code (Some m) after = (code ≡ 0) × (after ≡ None)
