-- A binding that a pass heeds, and one that it leaves.
use Rattle.std.proofs.Common.{◌≡◌, ℕ, List, length, Option, Some, None, sym, refl, ap, ◌∙◌, subst, inl, inr}
use Rattle.sh_table.specs.declared.view.Order.{Order}
use Rattle.sh_table.specs.Seats.{Heap}
use Rattle.sh_pass.specs.Passes.{Caller}
use Rattle.script_calls.specs.InOrder.{Covers}
use Rattle.script_calls.specs.Parts.{SeenPass}
use Rattle.script_calls.specs.Meeting.{KeepsOrders}
use Rattle.script_calls.specs.Receipts.{SeenReceipt, Heeds, MayHeed, receipt_seen, seen_of_receipt}
use Rattle.script_calls.proofs.NameLemmas.{heeds_keeps, heard_by_heeding, heard_kept, covers_on}
use Rattle.script_workers.specs.declared.board.Bound.{Bound}
use Rattle.script_workers.specs.Boards.{IsBinding, MayHearName}
use Rattle.script_workers.specs.Works.{HeardOfBound}

-- a pass that heeded a binding leaves one of its own
pub binding_left : (heap : Option Heap) (bound : Bound) (r own : Caller) (s t : SeenPass) → s.heap ≡ heap
    → IsBinding heap bound r → Heeds r s t → seen_of_receipt own ≡ receipt_seen t → IsBinding heap bound own
binding_left heap bound r own s t of binding e is = record {
  heap_is = ap (λ (z : SeenReceipt). z.heap) is ∙ (ap (λ (z : SeenPass). z.heap) e.is ∙ of);
  covers = subst (λ (z : SeenReceipt). Covers z.heard bound.pass bound.entries) (sym is)
      (covers_on r s t t e refl bound.pass bound.entries binding.covers);
}

pub name_only : (bound : Option Bound) (s t : SeenPass) → MayHearName bound s t
    → t ≡ record s { part = t.part; orders = t.orders }
name_only None s t h = h ∙ ap (λ (z : SeenPass). record s { part = z.part; orders = z.orders }) (sym h)
name_only (Some b) s t h = h.heeds.is
    ∙ ap (λ (z : SeenPass). record s { part = t.part; orders = z.orders }) (sym h.heeds.is)

pub name_heeds : (bound : Option Bound) (s t : SeenPass) → MayHearName bound s t → MayHeed s.part t.part
name_heeds None s t h = inl (ap (λ (z : SeenPass). z.part) h)
name_heeds (Some b) s t h = inr (h.receipt, h.heeds.part)

pub name_keeps : (bound : Option Bound) (s t : SeenPass) → MayHearName bound s t → KeepsOrders s.orders t.orders
name_keeps None s t h = subst (λ (z : SeenPass). KeepsOrders s.orders z.orders) (sym h) (λ o c. c)
name_keeps (Some b) s t h = heeds_keeps h.receipt s t h.heeds

pub name_heard : (bound : Option Bound) (s t : SeenPass) → MayHearName bound s t
    → HeardOfBound t.orders s.pass (length s.part.log) bound
name_heard None s t h = tt
name_heard (Some b) s t h = heard_by_heeding h.receipt s t h.heeds b.pass b.entries h.covers

pub bound_kept : (orders more : List Order) (pass first : ℕ) (bound : Option Bound) → KeepsOrders orders more
    → HeardOfBound orders pass first bound → HeardOfBound more pass first bound
bound_kept orders more pass first None keeps h = tt
bound_kept orders more pass first (Some b) keeps h = heard_kept orders more b.pass b.entries pass first keeps h
