-- A heap of any layout: its layout is chosen as it is opened, and a contract sees which one it is.
use Rattle.std.specs.Prelude.{◌≡◌, ℕ, Result, Ok, Err}
use Rattle.std.specs.Option.{MatchOption}
use Rattle.sh_key.specs.Layout.{Layout}
use Rattle.sh_key.specs.Layouts.{tiny, wide, tagged, deep}
use Rattle.sh_shape.specs.Shape.{Numbers, IsShape, Fits}
use Rattle.sh_shape.specs.Rooms.{IsLeastRoomy, NoneRoomy}
use Rattle.sh_value.specs.declared.refusal.Refusal.{Refusal}
use Rattle.sh_value.specs.declared.refusal.Refusal.TheVariants as refusal
use Rattle.sh_table.specs.Seats.{Heap}
use Rattle.sh_pool.specs.PoolSlots.{OpensPool}
use Rattle.c_handles.specs.Members.{layout_of, side_of, pool_slot_of, Begins}
use Rattle.c_handles.specs.declared.held_pass.HeldPass.{HeldPass}
use Rattle.c_handles.specs.declared.heap.AnyHeap.{AnyHeap}
use Rattle.c_handles.specs.declared.heap.AnyHeap.TheVariants as any
use Rattle.c_handles.specs.declared.heap.LayoutName.{LayoutName}
use Rattle.c_handles.specs.declared.heap.LayoutName.TheVariants as name

-- its layout
abbrev pub heap_layout : AnyHeap → Layout
heap_layout (any.Wide h) = wide
heap_layout (any.Tagged h) = tagged
heap_layout (any.Deep h) = deep
heap_layout (any.Tiny h) = tiny

-- the heap itself
abbrev pub heap_of : AnyHeap → Heap
heap_of (any.Wide h) = h
heap_of (any.Tagged h) = h
heap_of (any.Deep h) = h
heap_of (any.Tiny h) = h

-- the name of its layout
abbrev pub name_of : AnyHeap → LayoutName
name_of (any.Wide h) = name.Wide
name_of (any.Tagged h) = name.Tagged
name_of (any.Deep h) = name.Deep
name_of (any.Tiny h) = name.Tiny

-- the layout that is named
abbrev pub layout_named : LayoutName → Layout
layout_named name.Wide = wide
layout_named name.Tagged = tagged
layout_named name.Deep = deep
layout_named name.Tiny = tiny

-- and its number
abbrev pub layout_number : LayoutName → ℕ
layout_number name.Wide = 0
layout_number name.Tagged = 1
layout_number name.Deep = 2
layout_number name.Tiny = 3

-- a heap of this layout and shape is opened, or refused as the opening of a pool is
abbrev pub AnyOpens : LayoutName → Numbers → Result AnyHeap Refusal → Type 0
AnyOpens layout shape (Ok heap) = (heap_layout heap ≡ layout_named layout)
    × OpensPool (layout_named layout) shape (Ok (heap_of heap))
AnyOpens layout shape (Err why) = OpensPool (layout_named layout) shape (Err why)

-- a heap of this layout with a shape of these numbers is opened, unless there is no such shape, it does not fit the
-- layout, or memory is refused
abbrev pub OpensShaped : Layout → Numbers → Result AnyHeap Refusal → Type 0
OpensShaped layout n (Ok heap) = (heap_layout heap ≡ layout) × ((heap_of heap).shape ≡ n) × IsShape n × Fits layout n
OpensShaped layout n (Err refusal.BadShape) = ¬ (IsShape n × Fits layout n)
OpensShaped layout n (Err refusal.Memory) = IsShape n × Fits layout n
OpensShaped layout n (Err _) = ⊥

-- a heap of this layout with the least shape that has the room is opened, unless there is none, or memory is refused
abbrev pub OpensFor : Layout → (owners values words passes : ℕ) → Result AnyHeap Refusal → Type 0
OpensFor layout owners values words passes (Ok heap) = (heap_layout heap ≡ layout)
    × IsLeastRoomy layout owners values words passes (heap_of heap).shape
OpensFor layout owners values words passes (Err refusal.BadShape) = NoneRoomy layout owners values words passes
OpensFor layout owners values words passes (Err refusal.Memory) = (n : Numbers)
    × IsLeastRoomy layout owners values words passes n
OpensFor layout owners values words passes (Err _) = ⊥

-- a pass of the heap at rest, with its layout
pub record AnyBegins (heap : AnyHeap) (m : HeldPass) : Type 0 where
  pub layout : layout_of m ≡ heap_layout heap
  pub begins : MatchOption (side_of m) ⊥ (λ s. Begins (heap_of heap) s (pool_slot_of m))
