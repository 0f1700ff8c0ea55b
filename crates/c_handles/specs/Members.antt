-- A pass of a heap of any layout, and what its calls do. (What the handle of a pass holds may be a caller of a growing
-- heap, too: that has the layout of chunks, and does none of these calls.)
use Rattle.std.specs.Prelude.{◌≡◌, ℕ, ◌<◌, Option, Some, None, Result, Ok, Err}
use Rattle.sh_key.specs.Layout.{Layout}
use Rattle.sh_key.specs.Layouts.{tiny, wide, tagged, deep}
use Rattle.sh_chunk.specs.Chunks.{chunked}
use Rattle.sh_value.specs.declared.refusal.Refusal.{Refusal}
use Rattle.sh_table.specs.Seats.{Heap}
use Rattle.sh_pass.specs.Passes.{Caller, IsAtRest}
use Rattle.sh_member.specs.declared.member.Side.TheVariants as side
use Rattle.sh_member.specs.Sides.{SeenSide, IsPass, SideHeeds}
use Rattle.c_handles.specs.declared.held_pass.HeldPass.{HeldPass}
use Rattle.c_handles.specs.declared.held_pass.HeldPass.TheVariants as any

-- the layout of its heap
abbrev pub layout_of : HeldPass → Layout
layout_of (any.Wide m b) = wide
layout_of (any.Tagged m b) = tagged
layout_of (any.Deep m b) = deep
layout_of (any.Tiny m b) = tiny
layout_of (any.Growing c) = chunked

-- what it is: a pass, or the owner of a shard; a caller of a growing heap is neither
abbrev pub side_of : HeldPass → Option SeenSide
side_of (any.Wide m b) = Some m
side_of (any.Tagged m b) = Some m
side_of (any.Deep m b) = Some m
side_of (any.Tiny m b) = Some m
side_of (any.Growing c) = None

-- there are both, and this is so of them
abbrev pub OnSides : (SeenSide → SeenSide → Type 0) → Option SeenSide → Option SeenSide → Type 0
OnSides does (Some m) (Some n) = does m n
OnSides does (Some m) None = ⊥
OnSides does None n = ⊥

-- the number of its pool slot
abbrev pub pool_slot_of : HeldPass → ℕ
pool_slot_of (any.Wide m b) = b
pool_slot_of (any.Tagged m b) = b
pool_slot_of (any.Deep m b) = b
pool_slot_of (any.Tiny m b) = b
pool_slot_of (any.Growing c) = c.number

-- a call that does this to a member of the layout
pub record AnyDoes {A : Type 0} (does : Layout → SeenSide → Result A Refusal → SeenSide → Type 0) (m : HeldPass)
    (answer : Result A Refusal) (n : HeldPass) : Type 0 where
  pub layout : layout_of n ≡ layout_of m
  pub pool_slot : pool_slot_of n ≡ pool_slot_of m
  pub does_it : OnSides (λ s t. does (layout_of m) s answer t) (side_of m) (side_of n)

-- it heeded the receipt
pub record AnyHeeds (receipt : Caller) (m n : HeldPass) : Type 0 where
  pub layout : layout_of n ≡ layout_of m
  pub pool_slot : pool_slot_of n ≡ pool_slot_of m
  pub heeds : OnSides (SideHeeds (layout_of m) receipt) (side_of m) (side_of n)

-- its pass owned no shard and was given back, or it is returned with its pool slot
abbrev pub Gives : SeenSide → ℕ → Result (Unit {0}) (SeenSide × ℕ) → Type 0
Gives m pool_slot (Ok _) = IsPass m
Gives m pool_slot (Err back) = (back.0 ≡ m) × (back.1 ≡ pool_slot)

-- a pass of this heap that has begun nothing, with a pool slot of the heap's
pub record Begins (heap : Heap) (m : SeenSide) (pool_slot : ℕ) : Type 0 where
  pub caller : Caller
  pub pass : m ≡ side.Pass caller
  pub heap_is : caller.heap ≡ heap
  pub rest : IsAtRest caller
  pub pool_slot_is : pool_slot < heap.shape.passes
