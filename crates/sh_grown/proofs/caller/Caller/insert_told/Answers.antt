use Rattle.std.proofs.Common.{length, subst, sym}
use Rattle.std.specs.Prelude.{Ok}
use Rattle.sh_grown.specs.Inserts.{Inserts}
use Rattle.sh_grown.specs.Receipts.{AreReceiptsIn, CoversEach}
use Rattle.sh_grown.proofs.Telling.{tells_key}
use Rattle.sh_grown.proofs.caller.Caller.insert_told.Goals as goal

pub returns-clause-inserts : goal.returns-clause-inserts
returns-clause-inserts c =
    let was = c.args.self.now in
    subst (λ items. Inserts (length was.growing.cells.items) c.args.value.now was.met.items (Ok c.in_ok-key.key) items)
    (sym c.receipt-receipt.ensures.same) c.in_ok-key.ensures.inserts

pub returns-clause-tells : goal.returns-clause-tells
returns-clause-tells c =
    let mid = c.insert.new.self in
    tells_key mid.growing c.in_ok-key.key c.args.value.now c.args.self.now.met.items mid.met.items
    c.receipt-receipt.result.chunks.items c.in_ok-key.ensures.inserts mid.of_chunks c.receipt-receipt.ensures.covers

pub returns-clause-covers : goal.returns-clause-covers
returns-clause-covers c =
    let was = c.args.self.now in
    let given = c.receipt-receipt.result.chunks.items in
    subst (λ items. CoversEach (length was.growing.cells.items) items given) (sym c.receipt-receipt.ensures.same)
    (subst (λ g. CoversEach (length g.cells.items) c.insert.new.self.met.items given) c.insert.ensures.stays.growing
    c.receipt-receipt.ensures.covers)

pub returns-clause-of : goal.returns-clause-of
returns-clause-of c =
    subst (λ g. AreReceiptsIn g c.receipt-receipt.result.chunks.items) c.insert.ensures.stays.growing
    c.receipt-receipt.ensures.of

pub returns-clause-steps : goal.returns-clause-steps
returns-clause-steps c =
    rw c.receipt-receipt.ensures.same c.insert.ensures.steps
