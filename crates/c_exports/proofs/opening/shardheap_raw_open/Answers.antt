use Rattle.std.proofs.Common.{◌∙◌, sym}
use Rattle.c_exports.proofs.Filling.{shaped_told}
use Rattle.c_exports.proofs.opening.shardheap_raw_open.Goals as goal

pub returns : goal.returns
returns c = shaped_told _ c.in-Some.layout _ _ _ _ c.open_shaped-opened.result
    (sym c.is_full.ensures ∙ c.if-is_full.false) c.in-Some.ensures c.open_shaped-opened.ensures c.put_opened.ensures
