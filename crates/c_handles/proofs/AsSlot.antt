-- The handles own what a slot at the same types owns.
use denote.Signature.{Slot as Place, plain}
use denote.RattleType.{RattleType}
use Rattle.std_heap.specs.contracts.Global as Heap
use Rattle.std_heap.specs.contracts.GlobalAllocator.TheImpl.{ghosts}
use Rattle.sh_nullable.specs.contracts.nullable.NullableBox as slot
use Rattle.c_handles.specs.contracts.held_heap.HeldHeap as HeldHeap
use Rattle.c_handles.specs.contracts.heap_handle.HeapSlot as HeapSlot
use Rattle.c_handles.specs.contracts.held_pass.HeldPass as HeldPass
use Rattle.c_handles.specs.contracts.pass_handle.PassSlot as PassSlot
use Rattle.c_handles.specs.contracts.receipts.KeptReceipt as KeptReceipt
use Rattle.c_handles.specs.contracts.receipt_handle.ReceiptSlot as ReceiptSlot

abbrev pub HeapRow : RattleType
HeapRow = HeldHeap.the_row

abbrev pub FromHeapSlot : Place 0
FromHeapSlot = plain (λ _. HeapSlot.the_row)

abbrev pub FromHeap : Place 0
FromHeap = plain (λ _. slot.the_row HeldHeap.the_row Heap.the_row ghosts)

abbrev pub PassRow : RattleType
PassRow = HeldPass.the_row

abbrev pub FromPassSlot : Place 0
FromPassSlot = plain (λ _. PassSlot.the_row)

abbrev pub FromPass : Place 0
FromPass = plain (λ _. slot.the_row HeldPass.the_row Heap.the_row ghosts)

abbrev pub ReceiptRow : RattleType
ReceiptRow = KeptReceipt.the_row

abbrev pub FromReceiptSlot : Place 0
FromReceiptSlot = plain (λ _. ReceiptSlot.the_row)

abbrev pub FromReceipt : Place 0
FromReceipt = plain (λ _. slot.the_row KeptReceipt.the_row Heap.the_row ghosts)
