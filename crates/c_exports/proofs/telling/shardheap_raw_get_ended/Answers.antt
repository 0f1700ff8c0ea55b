use Rattle.std.proofs.Common.{◌∙◌, ap, refl, subst, sym, true}
use Rattle.c_handles.specs.Ended.{HeldGetTells}
use Rattle.c_exports.specs.declared.telling.Ended.{Ended}
use Rattle.c_exports.specs.Ended.{EndedTakes}
use Rattle.c_exports.proofs.Ends.{end_told, untold}
use Rattle.c_exports.proofs.telling.shardheap_raw_get_ended.Goals as goal

pub returns-then-not-is_full : goal.returns-then-not-is_full
returns-then-not-is_full c =
    untold (HeldGetTells true EndedTakes c.args.key) c.args.ended.now c.clear.new.self _
    (sym c.is_full.ensures ∙ c.if-not-is_full.true) c.clear.ensures

pub returns : goal.returns
returns c =
    let r = c.get_ended-answer in
    end_told (HeldGetTells true EndedTakes c.args.key) _ c.args.ended.now _ r.new.room _ _ _ _ r.result c.held.ensures.value
    refl c.code.ensures
    (ap (λ k. record { key = k; length = r.new.room.length; words = r.new.room.words }) c.number-ended.ensures)
    (subst (λ (e : Ended). HeldGetTells true EndedTakes c.args.key e c.held.result.now r.result r.new.room r.new.self)
    c.clear.ensures r.ensures)
