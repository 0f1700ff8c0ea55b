-- What the codes mean for receipts.
use Rattle.std.specs.Prelude.{◌≡◌, ℕ, Option, Some, None}
use Rattle.c_handles.specs.declared.held_pass.HeldPass.{HeldPass}
use Rattle.c_handles.specs.declared.receipts.KeptReceipt.{KeptReceipt}
use Rattle.c_handles.specs.HeldPasses.{HeldHeeds, IsAsBefore, IsOfHeldHeap, IsReceiptOf}
use Rattle.c_exports.specs.Told.{Asked}

-- the handle has the pass still, as it was
abbrev pub HasStill : HeldPass → Option HeldPass → Type 0
HasStill m (Some n) = IsAsBefore m n
HasStill m None = ⊥

-- what an empty handle of a receipt has after a pass made one: a receipt of all replies to the pass, or nothing if
-- memory was refused
abbrev pub MakesReceipt : HeldPass → ℕ → Option KeptReceipt → Type 0
MakesReceipt m code (Some kept) = (code ≡ 0) × IsReceiptOf m kept
MakesReceipt m code None = code ≡ 8

-- the making of a receipt, by its code: a full handle of a receipt stays as it was, and so do both if there is no
-- pass; the pass is as it was
abbrev pub ReceiptTold : ℕ → Option HeldPass → Option HeldPass → Option KeptReceipt → Option KeptReceipt → Type 0
ReceiptTold code pass left (Some kept) after = (code ≡ 15) × (left ≡ pass) × (after ≡ Some kept)
ReceiptTold code None left None after = (code ≡ 14) × (left ≡ None) × (after ≡ None)
ReceiptTold code (Some m) left None after = HasStill m left × MakesReceipt m code after

-- the receipt, if there is one, is of the heap of the pass, if there is one
abbrev pub AreOfOneHeap : Option HeldPass → Option KeptReceipt → Type 0
AreOfOneHeap (Some m) (Some kept) = IsOfHeldHeap m kept
AreOfOneHeap (Some m) None = Unit {0}
AreOfOneHeap None kept = Unit {0}

-- a heed by its code: both stay as they were if there is no pass or no receipt; otherwise the pass heeded the receipt,
-- whose handle is then empty
abbrev pub HeedTold : ℕ → Option HeldPass → Option HeldPass → Option KeptReceipt → Option KeptReceipt → Type 0
HeedTold code None after kept left = (code ≡ 14) × (after ≡ None) × (left ≡ kept)
HeedTold code (Some m) after None left = (code ≡ 14) × (after ≡ Some m) × (left ≡ None)
HeedTold code (Some m) after (Some kept) left = (left ≡ None) × Asked (HeldHeeds kept) code (Some m) after
