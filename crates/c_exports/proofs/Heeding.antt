-- A receipt that a pass made is of its own heap, and of that of another pass of this heap; and what a heed does.
use Rattle.std.proofs.Common.{◌≡◌, ℕ, true, refl, sym, ◌∙◌, ap, subst, Result}
use Rattle.std.proofs.lemmas.Bool.{false≢true}
use Rattle.std.specs.Option.{MatchOption}
use Rattle.std.specs.declared.option.Option.{Option}
use Rattle.std.specs.declared.option.Option.TheVariants.{None, Some}
use Rattle.sh_value.specs.declared.refusal.Refusal.{Refusal}
use Rattle.sh_table.specs.Seats.{Heap}
use Rattle.sh_pass.specs.Passes.{Caller}
use Rattle.sh_pass.specs.Receipts.{receipt_by}
use Rattle.sh_nullable.specs.Owning.{has_value}
use Rattle.sh_grown.specs.Receipts.{AreReceiptsIn}
use Rattle.sh_member.specs.declared.member.Side.TheVariants.{Pass, Shard}
use Rattle.sh_member.specs.Sides.{SeenSide, IsOfHeap, IsReceiptBy}
use Rattle.c_handles.specs.declared.held_heap.HeldHeap.{HeldHeap}
use Rattle.c_handles.specs.declared.held_heap.HeldHeap.TheVariants as heap
use Rattle.c_handles.specs.declared.held_pass.HeldPass.{HeldPass}
use Rattle.c_handles.specs.declared.held_pass.HeldPass.TheVariants as held
use Rattle.c_handles.specs.declared.receipts.KeptReceipt.{KeptReceipt}
use Rattle.c_handles.specs.declared.receipts.KeptReceipt.TheVariants as kept
use Rattle.c_handles.specs.Heaps.{heap_of}
use Rattle.c_handles.specs.Members.{Begins, side_of}
use Rattle.c_handles.specs.HeldHeaps.{HeldBegins}
use Rattle.c_handles.specs.HeldPasses.{HeldHeeds, IsAsBefore, IsOfFixed, IsOfHeldHeap, IsReceiptOf}
use Rattle.c_exports.specs.Opened.{TakeTold}
use Rattle.c_exports.specs.Receipts.{AreOfOneHeap, HeedTold, ReceiptTold}
use Rattle.c_exports.specs.Told.{code_of, empty_code}

-- ---- of its own heap

side_receipt : (s : Option SeenSide) (r : Caller) → MatchOption s ⊥ (λ t. IsReceiptBy t r)
    → MatchOption s ⊥ (λ t. IsOfHeap t r.heap)
side_receipt (Some (Pass v)) r is = ap (λ (c : Caller). c.heap) is
side_receipt (Some (Shard o)) r is = ap (λ (c : Caller). c.heap) is
side_receipt None r is = absurd is

held_receipt : (m n : HeldPass) (r : KeptReceipt) → IsReceiptOf m r → IsAsBefore m n → IsOfHeldHeap n r
held_receipt (held.Growing c) (held.Growing d) (kept.Growing r) is same =
    subst (λ g. AreReceiptsIn g r.chunks.items) (sym same.1.growing) is.1
held_receipt (held.Growing c) (held.Growing d) (kept.Fixed r) is same = absurd is
held_receipt (held.Growing c) n r is same = absurd same
held_receipt m n (kept.Fixed r) is same = subst (λ x. IsOfFixed x r.heap) (sym same) (side_receipt (side_of m) r is)
held_receipt m n (kept.Growing r) is same = absurd is

own_made : (code : ℕ) (pass left : Option HeldPass) (after : Option KeptReceipt) → ReceiptTold code pass left None after
    → AreOfOneHeap left after
own_made code pass None after made = tt
own_made code pass (Some n) None made = tt
own_made code (Some m) (Some n) (Some r) made = held_receipt m n r made.1.1 made.0
own_made code None (Some n) (Some r) made = absurd (let e = made.2 in cc)

-- a receipt that was made in an empty handle is of the heap of the pass
pub own_receipt : (code : ℕ) (pass left : Option HeldPass) (before after : Option KeptReceipt) → before ≡ None
    → ReceiptTold code pass left before after → AreOfOneHeap left after
own_receipt code pass left before after empty made =
    own_made code pass left after (subst (λ o. ReceiptTold code pass left o after) empty made)

-- ---- of the heap of another pass

sides_alike : (h : Heap) (a b : Option SeenSide) (p q : ℕ) (r : Caller) → MatchOption a ⊥ (λ s. Begins h s p)
    → MatchOption b ⊥ (λ t. Begins h t q) → MatchOption a ⊥ (λ s. IsReceiptBy s r)
    → MatchOption b ⊥ (λ t. IsOfHeap t r.heap)
sides_alike h None b p q r one other is = absurd one
sides_alike h (Some s) None p q r one other is = absurd other
sides_alike h (Some s) (Some t) p q r one other is =
    let made : r ≡ receipt_by one.caller = subst (λ x. IsReceiptBy x r) one.pass is in
    let same : r.heap ≡ other.caller.heap =
    ap (λ (c : Caller). c.heap) made ∙ (one.heap_is ∙ sym other.heap_is) in
    subst (λ x. IsOfHeap x r.heap) (sym other.pass) same

alike : (h : HeldHeap) (m n : HeldPass) (r : KeptReceipt) → HeldBegins h m → HeldBegins h n → IsReceiptOf m r
    → IsOfHeldHeap n r
alike (heap.Fixed h) (held.Growing c) n r one other is = absurd one.begins
alike (heap.Fixed h) m (held.Growing d) r one other is = absurd other.begins
alike (heap.Fixed h) m n (kept.Fixed r) one other is =
    sides_alike (heap_of h) (side_of m) (side_of n) _ _ r one.begins other.begins is
alike (heap.Fixed h) m n (kept.Growing r) one other is = absurd is
alike (heap.Growing g) (held.Growing c) (held.Growing d) (kept.Growing r) one other is =
    subst (λ x. AreReceiptsIn x r.chunks.items) (one.0 ∙ sym other.0) is.1
alike (heap.Growing g) (held.Growing c) (held.Growing d) (kept.Fixed r) one other is = absurd is
alike (heap.Growing g) (held.Growing c) n r one other is = absurd other
alike (heap.Growing g) m n r one other is = absurd one

abbrev held_or : HeldHeap → Option HeldHeap → HeldHeap
held_or d None = d
held_or d (Some h) = h

-- what a take says of the heap whose pass it found
taken_of : (code : ℕ) (h left : Option HeldHeap) (m : HeldPass) → TakeTold code h left None (Some m)
    → (it : HeldHeap) × (h ≡ Some it) × (left ≡ Some it) × HeldBegins it m
taken_of code None left m took = absurd (let e = took.2 in cc)
taken_of code (Some it) left m took = (it, refl, took.0, took.1.1)

other_made : (c d e : ℕ) (h left last : Option HeldHeap) (a b after : Option HeldPass) (made : Option KeptReceipt)
    → TakeTold c h left None a → TakeTold d left last None b → ReceiptTold e a after None made → AreOfOneHeap b made
other_made c d e h left last a None after made one other did = tt
other_made c d e h left last a (Some n) after None one other did = tt
other_made c d e h left last None (Some n) after (Some r) one other did = absurd (let e = did.2 in cc)
other_made c d e h left last (Some m) (Some n) after (Some r) one other did =
    let first = taken_of c h left m one in
    let second = taken_of d left last n other in
    let same : first.0 ≡ second.0 = ap (held_or first.0) (sym first.2 ∙ second.1) in
    alike second.0 m n r (subst (λ it. HeldBegins it m) same first.3) second.3 did.1.1

-- a receipt of one pass is of the heap of another pass that was taken from the same heap
pub other_receipt : (c d e : ℕ) (h left last : Option HeldHeap) (p a q b after : Option HeldPass)
    (before made : Option KeptReceipt) → p ≡ None → TakeTold c h left p a → q ≡ None → TakeTold d left last q b
    → before ≡ None → ReceiptTold e a after before made → AreOfOneHeap b made
other_receipt c d e h left last p a q b after before made p_none one q_none other none did =
    other_made c d e h left last a b after made (subst (λ o. TakeTold c h left o a) p_none one)
    (subst (λ o. TakeTold d left last o b) q_none other) (subst (λ o. ReceiptTold e a after o made) none did)

-- ---- what a heed does

-- a receipt in a box is of the heap of the pass that is to heed it
pub of_one_heap : (a : Option HeldPass) (before : Option KeptReceipt) (m : HeldPass) (r : KeptReceipt) → a ≡ Some m
    → before ≡ Some r → AreOfOneHeap a before → IsOfHeldHeap m r
of_one_heap a before m r is full alike =
    subst (λ o. AreOfOneHeap (Some m) o) full (subst (λ o. AreOfOneHeap o before) is alike)

-- without a receipt nothing is done
pub none_heeded : (a : Option HeldPass) (before left : Option KeptReceipt) → has_value a ≡ true → before ≡ None
    → left ≡ None → HeedTold empty_code a a before left
none_heeded None before left full without gone = absurd (false≢true full)
none_heeded (Some m) before left full without gone =
    subst (λ o. HeedTold empty_code (Some m) (Some m) o left) (sym without) (refl, refl, gone)

-- and a receipt is heeded
pub heeded : (r : KeptReceipt) (code : ℕ) (a b : Option HeldPass) (before left : Option KeptReceipt) (m n : HeldPass)
    (answer : Result (Unit {0}) Refusal) → a ≡ Some m → b ≡ Some n → before ≡ Some r → left ≡ None
    → code ≡ code_of answer → HeldHeeds r m answer n → HeedTold code a b before left
heeded r code a b before left m n answer is was full gone e did =
    subst (λ o. HeedTold code a b o left) (sym full)
    (subst (λ o. HeedTold code o b (Some r) left) (sym is) (gone, (n, was, (answer, e, did))))
