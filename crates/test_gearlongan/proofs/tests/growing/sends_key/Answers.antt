use Rattle.std.proofs.Common.{◌∙◌, subst, sym}
use Rattle.gearlongan.specs.{AreReceiptsIn}
use Rattle.test_gearlongan.proofs.tests.growing.sends_key.Goals as goal

pub heed-requires : goal.heed-requires
heed-requires g c =
    subst (λ growing. AreReceiptsIn growing c.receipt-receipt.result.chunks.items)
    (c.insert.ensures.stays.growing ∙ sym c.requires) c.receipt-receipt.ensures.of
