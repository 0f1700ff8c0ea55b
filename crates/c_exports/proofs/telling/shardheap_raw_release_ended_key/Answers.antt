use Rattle.std.proofs.Common.{◌∙◌, false, refl, sym}
use Rattle.c_handles.specs.Ended.{HeldReleaseTells}
use Rattle.c_exports.specs.Ended.{no_room, no_takes}
use Rattle.c_exports.proofs.Ends.{end_key_told, untold_key}
use Rattle.c_exports.proofs.telling.shardheap_raw_release_ended_key.Goals as goal

pub returns-then-not-is_full : goal.returns-then-not-is_full
returns-then-not-is_full c =
    untold_key (λ v answer w. HeldReleaseTells false no_takes c.args.key no_room v answer no_room w) _
    (sym c.is_full.ensures ∙ c.if-not-is_full.true)

pub returns : goal.returns
returns c =
    let r = c.release_ended-answer in
    end_key_told (λ v answer w. HeldReleaseTells false no_takes c.args.key no_room v answer no_room w) _ _ _ _ _ _ r.result
    c.held.ensures.value refl c.code.ensures c.number.ensures r.ensures
