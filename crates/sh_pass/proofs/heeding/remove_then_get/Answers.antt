use Rattle.std.proofs.Common.{◌≡◌, ap, sym, subst, ◌∙◌, inr, Ok}
use Rattle.sh_pass.specs.Passes.{Caller, GetDoes, RemoveDoes}
use Rattle.sh_pass.specs.Receipts.{receipt_by, heeded}
use Rattle.sh_pass.proofs.ReceiptLaws.{finds_none}
use Rattle.sh_pass.proofs.heeding.remove_then_get.Goals as goal

pub returns : goal.returns
returns g c =
    let layout = g.L.KeyLayout.layout in
    let key = c.args.key in
    let one : Caller = c.receipt-told.new.self in
    let other : Caller = heeded c.args.other.now (receipt_by one) in
    let removes : RemoveDoes layout key c.args.one.now (Ok tt) one = subst
    (λ (w : Caller). RemoveDoes layout key c.args.one.now (Ok tt) w) (sym c.receipt-told.ensures.same)
    c.in_ok-remove.ensures.does in
    let heeds : c.heed.new.self ≡ other = c.heed.ensures.heeds
    ∙ ap (heeded c.args.other.now) (c.receipt-told.ensures.tells ∙ ap receipt_by (sym c.receipt-told.ensures.same)) in
    inr (record {
      removes = removes;
      gets = subst (λ (v : Caller). GetDoes layout key v c.get.result c.get.new.self) heeds c.get.ensures.does;
      finds_none = finds_none layout key c.args.one.now one c.args.other.now c.heed.new.self c.get.new.self
          c.heard_comes_first.ensures.removed removes heeds c.get.ensures.remains.stands c.get.result
          c.get.ensures.does;
    })
