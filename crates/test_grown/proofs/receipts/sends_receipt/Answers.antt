use Rattle.std.proofs.Common.{subst, sym}
use Rattle.sh_grown.specs.Receipts.{AreReceiptsIn}
use Rattle.test_grown.proofs.receipts.sends_receipt.Goals as goal

pub heed-requires : goal.heed-requires
heed-requires g c =
    subst (λ growing. AreReceiptsIn growing c.receipt-receipt.result.chunks.items) (sym c.requires)
    c.receipt-receipt.ensures.of
