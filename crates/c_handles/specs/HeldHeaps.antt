-- What a heap's handle holds: a heap of a fixed shape in any layout, or one that grows.
use Rattle.std.specs.Prelude.{◌≡◌, ℕ, ◌*◌, Result, Ok, Err, length}
use Rattle.sh_value.specs.declared.refusal.Refusal.{Refusal}
use Rattle.sh_whole.specs.declared.refusal.NotTold.{NotTold}
use Rattle.sh_whole.specs.declared.refusal.NotTold.TheVariants as untold
use Rattle.sh_grown.specs.Callers.{IsClaimed}
use Rattle.sh_grown.specs.Growing.{OpensGrowingFor}
use Rattle.sh_grown.specs.Sizes.{Sizes, SizesBelow, room_in, size_of}
use Rattle.c_handles.specs.Heaps.{AnyBegins, heap_of, layout_number, name_of}
use Rattle.c_handles.specs.declared.heap.AnyHeap.{AnyHeap}
use Rattle.c_handles.specs.declared.held_heap.HeldHeap.{HeldHeap}
use Rattle.c_handles.specs.declared.held_heap.HeldHeap.TheVariants as held
use Rattle.c_handles.specs.declared.held_pass.HeldPass.{HeldPass}
use Rattle.c_handles.specs.declared.held_pass.HeldPass.TheVariants as pass

-- how many passes it has
abbrev pub passes_of : HeldHeap → ℕ
passes_of (held.Fixed heap) = (heap_of heap).shape.passes
passes_of (held.Growing growing) = growing.passes

-- how many of its chunks are open: a heap of a fixed shape is one, and of one that grows the tests show it
abbrev pub HasChunks : HeldHeap → ℕ → Type 0
HasChunks (held.Fixed heap) chunks = chunks ≡ 1
HasChunks (held.Growing growing) chunks = Unit {0}

-- its size: that of its shape, or the sum over the chunks that were found open
abbrev pub HasSize : HeldHeap → Sizes → Type 0
HasSize (held.Fixed heap) size = size ≡ size_of (heap_of heap).shape
HasSize (held.Growing growing) size = SizesBelow growing (length growing.cells.items) size

-- how many values of this many words it has room for
abbrev pub HasCapacity : (words : ℕ) → HeldHeap → ℕ → Type 0
HasCapacity words heap count = (size : Sizes) × HasSize heap size × (count ≡ room_in size words)

-- how many bytes its words take
abbrev pub HasBytes : HeldHeap → ℕ → Type 0
HasBytes heap bytes = (size : Sizes) × HasSize heap size × (bytes ≡ 8 * size.words)

-- the number of its layout, and 4 if it grows
abbrev pub layout_by : HeldHeap → ℕ
layout_by (held.Fixed heap) = layout_number (name_of heap)
layout_by (held.Growing growing) = 4

-- the opening of a heap of a fixed shape does this
abbrev pub OpensFixed : (Result AnyHeap Refusal → Type 0) → Result HeldHeap Refusal → Type 0
OpensFixed opens (Ok (held.Fixed heap)) = opens (Ok heap)
OpensFixed opens (Ok (held.Growing growing)) = ⊥
OpensFixed opens (Err why) = opens (Err why)

-- a growing heap is opened whose first chunk has this room
abbrev pub OpensGrown : (owners values words passes chunks : ℕ) → Result HeldHeap Refusal → Type 0
OpensGrown owners values words passes chunks (Ok (held.Fixed heap)) = ⊥
OpensGrown owners values words passes chunks (Ok (held.Growing growing)) =
    OpensGrowingFor owners values words passes chunks (Ok growing)
OpensGrown owners values words passes chunks (Err why) = OpensGrowingFor owners values words passes chunks (Err why)

-- a pass of the heap at rest, or a caller of it that was just claimed
abbrev pub HeldBegins : HeldHeap → HeldPass → Type 0
HeldBegins (held.Fixed heap) m = AnyBegins heap m
HeldBegins (held.Growing growing) (pass.Growing c) =
    (c.growing ≡ growing) × IsClaimed growing c.number c.met.items
HeldBegins (held.Growing growing) m = ⊥

-- a call on the heap as a whole: one that grows is not known as a whole
abbrev pub OnWhole : {A : Type 0} → (AnyHeap → Result A NotTold → Type 0) → HeldHeap → Result A NotTold → Type 0
OnWhole does (held.Fixed heap) answer = does heap answer
OnWhole does (held.Growing growing) answer = answer ≡ Err untold.Away
