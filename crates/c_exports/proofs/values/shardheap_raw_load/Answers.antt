use Rattle.std.proofs.Common.{◌∙◌, refl, rules, sym}
use Rattle.c_handles.specs.HeldPasses.{HeldFetches}
use Rattle.c_exports.proofs.Asking.{read_through, unread}
use Rattle.c_exports.proofs.values.shardheap_raw_load.Goals as goal

pub returns-then-not-is_full : goal.returns-then-not-is_full
returns-then-not-is_full c = unread _ _ _ _ (sym c.is_full.ensures ∙ c.if-not-is_full.true)

pub returns : goal.returns
returns c =
    read_through (HeldFetches c.args.key) _ _ _ _ _ _ _ _ _ _ _ c.held.result.now c.look_into.new.member
    c.held.ensures.value refl c.new-room.ensures.words_now (search rules) c.new-room.ensures.count_now (search rules)
    c.look_into.ensures.looks
