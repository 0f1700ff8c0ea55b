-- Opening a heap into an empty handle.
use Rattle.std.proofs.Common.{◌≡◌, ℕ, false, inl, inr, sym, subst, Result, Ok, Err}
use Rattle.std.specs.declared.option.Option.{Option}
use Rattle.sh_key.specs.Layout.{Layout}
use Rattle.sh_shape.specs.Shape.{Numbers}
use Rattle.sh_value.specs.declared.refusal.Refusal.{Refusal}
use Rattle.sh_value.specs.declared.refusal.Refusal.TheVariants as refusal
use Rattle.sh_nullable.specs.Owning.{has_value}
use Rattle.c_handles.specs.declared.held_heap.HeldHeap.{HeldHeap}
use Rattle.c_handles.specs.declared.held_heap.HeldHeap.TheVariants as held
use Rattle.c_handles.specs.declared.heap.LayoutName.{LayoutName}
use Rattle.c_handles.specs.Heaps.{OpensShaped, OpensFor, heap_of, layout_named, layout_number}
use Rattle.c_handles.specs.HeldHeaps.{OpensFixed, OpensGrown}
use Rattle.c_exports.specs.Opened.{HeapPut, PutOpened, OpenTold, OpensGrowing}
use Rattle.c_exports.proofs.Asking.{no_value}

-- what was opened is in the handle, unless memory for it was refused
put_told : (opens : Result HeldHeap Refusal → Type 0)
    → ((heap : HeldHeap) → opens (Ok heap) → opens (Err refusal.Memory))
    → (opened : Result HeldHeap Refusal) (code : ℕ) (after : Option HeldHeap) → opens opened → HeapPut opened code after
    → PutOpened opens code after
put_told opens refused (Ok heap) code after o (inl put) = subst (PutOpened opens code) (sym put.1) (put.0, o)
put_told opens refused (Ok heap) code after o (inr not) =
    subst (PutOpened opens code) (sym not.1) (refusal.Memory, not.0, refused heap o)
put_told opens refused (Err why) code after o told = subst (PutOpened opens code) (sym told.1) (why, told.0, o)

told : (opens : Layout → Result HeldHeap Refusal → Type 0) (name : LayoutName) (number code : ℕ)
    (before after : Option HeldHeap) → has_value before ≡ false → layout_number name ≡ number
    → PutOpened (opens (layout_named name)) code after → OpenTold opens number code before after
told opens name number code before after empty is put = subst (λ o. OpenTold opens number code o after)
    (sym (no_value before empty)) (inr (name, is, put))

-- a heap that is opened could also have been refused memory
shaped_or_refused : (l : Layout) (n : Numbers) (heap : HeldHeap) → OpensFixed (OpensShaped l n) (Ok heap)
    → OpensFixed (OpensShaped l n) (Err refusal.Memory)
shaped_or_refused l n (held.Fixed heap) z = (z.2, z.3)
shaped_or_refused l n (held.Growing growing) z = absurd z

pub shaped_told : (n : Numbers) (name : LayoutName) (number code : ℕ) (before after : Option HeldHeap)
    (opened : Result HeldHeap Refusal) → has_value before ≡ false → layout_number name ≡ number
    → OpensFixed (OpensShaped (layout_named name) n) opened → HeapPut opened code after
    → OpenTold (λ l. OpensFixed (OpensShaped l n)) number code before after
shaped_told n name number code before after opened empty is o put =
    told (λ l. OpensFixed (OpensShaped l n)) name number code before after empty is
    (put_told (OpensFixed (OpensShaped (layout_named name) n)) (shaped_or_refused (layout_named name) n) opened code
    after o put)

roomy_or_refused : (l : Layout) (owners values words passes : ℕ) (heap : HeldHeap)
    → OpensFixed (OpensFor l owners values words passes) (Ok heap)
    → OpensFixed (OpensFor l owners values words passes) (Err refusal.Memory)
roomy_or_refused l owners values words passes (held.Fixed heap) z = ((heap_of heap).shape, z.1)
roomy_or_refused l owners values words passes (held.Growing growing) z = absurd z

pub roomy_told : (owners values words passes : ℕ) (name : LayoutName) (number code : ℕ)
    (before after : Option HeldHeap) (opened : Result HeldHeap Refusal) → has_value before ≡ false
    → layout_number name ≡ number → OpensFixed (OpensFor (layout_named name) owners values words passes) opened
    → HeapPut opened code after
    → OpenTold (λ l. OpensFixed (OpensFor l owners values words passes)) number code before after
roomy_told owners values words passes name number code before after opened empty is o put =
    told (λ l. OpensFixed (OpensFor l owners values words passes)) name number code before after empty is
    (put_told (OpensFixed (OpensFor (layout_named name) owners values words passes))
    (roomy_or_refused (layout_named name) owners values words passes) opened code after o put)

grown_or_refused : (owners values words passes chunks : ℕ) (heap : HeldHeap)
    → OpensGrown owners values words passes chunks (Ok heap)
    → OpensGrown owners values words passes chunks (Err refusal.Memory)
grown_or_refused owners values words passes chunks (held.Fixed heap) z = absurd z
grown_or_refused owners values words passes chunks (held.Growing growing) z = z.0

-- a growing heap is opened into an empty handle
pub grown_into : (owners values words passes chunks code : ℕ) (before after : Option HeldHeap)
    (opened : Result HeldHeap Refusal) → has_value before ≡ false
    → OpensGrown owners values words passes chunks opened → HeapPut opened code after
    → OpensGrowing owners values words passes chunks code before after
grown_into owners values words passes chunks code before after opened empty o put =
    subst (λ h. OpensGrowing owners values words passes chunks code h after) (sym (no_value before empty))
    (put_told (OpensGrown owners values words passes chunks) (grown_or_refused owners values words passes chunks) opened
    code after o put)
