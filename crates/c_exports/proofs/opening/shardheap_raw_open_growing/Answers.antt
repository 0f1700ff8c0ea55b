use Rattle.std.proofs.Common.{◌∙◌, sym}
use Rattle.c_exports.proofs.Filling.{grown_into}
use Rattle.c_exports.proofs.opening.shardheap_raw_open_growing.Goals as goal

pub returns : goal.returns
returns c = grown_into c.args.owners c.args.values c.args.words c.args.passes c.args.chunks _ _ _
    c.open_growing-opened.result (sym c.is_full.ensures ∙ c.if-is_full.false) c.open_growing-opened.ensures
    c.put_opened.ensures
