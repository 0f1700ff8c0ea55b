-- A receipt may go to another thread, and so may its slot.
use mir.Raw.{raw}
use base.Shift.{Keyless}
use denote.Memory.{lone}
use denote.RawPtr.{Ptr}
use denote.Struct.Struct.{exits_of}
use denote.Struct.Owning.{shape, fields, to}
use denote.Param.Send.{IsSend, AllSend, owning_send, struct_send, sendable}
use Rattle.core.specs.declared.option.Option.{Option}
use Rattle.core.specs.declared.option.Option.TheVariants.{None, Some}
use Rattle.std.specs.Global.{Global}
use Rattle.std.proofs.Crossing as heap
use Rattle.std_alloc.proofs.SendSync.{quiet, lies}
use Rattle.std_heap.proofs.Global.TheSendSync as handle
use Rattle.c_handles.specs.contracts.receipts.KeptReceipt as KeptReceipt
use Rattle.c_handles.proofs.receipts.KeptReceipt.TheSendSync.{the_send as pass}
use Rattle.c_handles.specs.ReceiptOwning.{receipt_owns}
use Rattle.c_handles.specs.contracts.receipt_handle.ReceiptSlot.{the_row, the_type}

receipt_owned : (a : Global) (p : Ptr) (o : Option KeptReceipt.the_row.Denot) → Keyless (receipt_owns a p o)
receipt_owned a p None = tt
receipt_owned a p (Some x) = (lies KeptReceipt.the_row pass p x, heap.frees.frees a (raw (lone KeptReceipt.the_row.mir)) p)

pub send : IsSend the_row
send =
    let all : AllSend (fields the_type) = (search sendable, (handle.the_field_send, tt)) in
    owning_send the_type all (λ d. receipt_owned d.alloc d.at d.value)
    (λ k. quiet (to the_type) (exits_of k (fields the_type)) ((struct_send (shape the_type) all).leaving k))
