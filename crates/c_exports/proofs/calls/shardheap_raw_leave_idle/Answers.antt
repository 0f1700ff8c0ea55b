use Rattle.std.proofs.Common.{◌∙◌, refl, sym}
use Rattle.c_exports.proofs.Asking.{asked, unasked}
use Rattle.c_exports.proofs.calls.shardheap_raw_leave_idle.Goals as goal

pub returns-then-not-is_full : goal.returns-then-not-is_full
returns-then-not-is_full c = unasked _ _ (sym c.is_full.ensures ∙ c.if-not-is_full.true)

pub returns : goal.returns
returns c = asked _ _ _ _ _ _ _ c.held.ensures.value refl c.code.ensures c.leave_idle-answer.ensures
