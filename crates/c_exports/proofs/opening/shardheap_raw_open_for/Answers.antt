use Rattle.std.proofs.Common.{◌∙◌, sym}
use Rattle.c_exports.proofs.Filling.{roomy_told}
use Rattle.c_exports.proofs.opening.shardheap_raw_open_for.Goals as goal

pub returns : goal.returns
returns c = roomy_told _ _ _ _ c.in-Some.layout _ _ _ _ c.open_for-opened.result
    (sym c.is_full.ensures ∙ c.if-is_full.false) c.in-Some.ensures c.open_for-opened.ensures c.put_opened.ensures
