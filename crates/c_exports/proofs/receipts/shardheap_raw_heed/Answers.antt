use Rattle.std.proofs.Common.{◌∙◌, refl, sym}
use Rattle.c_exports.proofs.Heeding.{heeded, none_heeded, of_one_heap}
use Rattle.c_exports.proofs.receipts.shardheap_raw_heed.Goals as goal

pub heed_kept-answer-requires : goal.heed_kept-answer-requires
heed_kept-answer-requires c = of_one_heap _ _ _ _ c.held.ensures.value c.in-Some.ensures.value c.requires

pub returns-in_default : goal.returns-in_default
returns-in_default c =
    none_heeded _ _ _ (sym c.is_full.ensures ∙ c.if-not-is_full.false) c.in_default.ensures.value c.take.ensures.gone

pub returns : goal.returns
returns c = heeded _ _ _ _ _ _ _ _ _ c.held.ensures.value refl c.in-Some.ensures.value c.take.ensures.gone
    c.code.ensures c.heed_kept-answer.ensures
