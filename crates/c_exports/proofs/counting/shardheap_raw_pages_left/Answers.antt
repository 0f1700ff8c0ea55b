use Rattle.std.proofs.Common.{◌∙◌, refl, sym}
use Rattle.c_exports.proofs.Asking.{asked_number, unasked_number}
use Rattle.c_exports.proofs.counting.shardheap_raw_pages_left.Goals as goal

pub returns-then-not-is_full : goal.returns-then-not-is_full
returns-then-not-is_full c = unasked_number _ _ _ (sym c.is_full.ensures ∙ c.if-not-is_full.true)

pub returns : goal.returns
returns c = asked_number _ _ _ _ _ _ _ _ _ c.held.ensures.value refl c.code.ensures c.write_number.ensures
    c.pages_left-answer.ensures
