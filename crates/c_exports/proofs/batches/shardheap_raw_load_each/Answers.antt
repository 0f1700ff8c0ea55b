use Rattle.std.proofs.Common.{◌∙◌, refl, sym}
use Rattle.c_exports.proofs.BatchCodes.{all_loaded, unloaded}
use Rattle.c_exports.proofs.batches.shardheap_raw_load_each.Goals as goal

pub returns-then-not-is_full : goal.returns-then-not-is_full
returns-then-not-is_full c = unloaded _ _ (sym c.is_full.ensures ∙ c.if-not-is_full.true)

pub returns : goal.returns
returns c = all_loaded _ _ _ _ _ _ c.held.ensures.value refl c.load_all.ensures
