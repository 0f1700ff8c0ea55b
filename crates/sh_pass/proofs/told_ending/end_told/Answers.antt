use Rattle.std.proofs.Common.{◌∙◌, refl, sym, None}
use Rattle.sh_pass.proofs.EndLoads.{drop_finishes, drop_idle, grows_none}
use Rattle.sh_pass.proofs.EndsTold.{ends_now}
use Rattle.sh_pass.specs.Telling.{words_asked}
use Rattle.std.proofs.Common.{◌+◌}
use Rattle.sh_pass.proofs.told_ending.end_told.Goals as goal

pub finish_told-requires-clause-hand : goal.finish_told-requires-clause-hand
finish_told-requires-clause-hand g c = c.requires.hand ∙ drop_finishes c.args.slot_ref _ c.args.found
    c.in-Finishing.generation _ (sym c.after_drop.ensures ∙ c.in-Finishing.is)

pub returns-in_default-clause-grows : goal.returns-in_default-clause-grows
returns-in_default-clause-grows g c = grows_none c.args.seat.now.me.0 (5 + words_asked g.M.EndRoom.asks)
    (c.requires.hand ∙ drop_idle c.args.slot_ref c.args.found
    (λ y n s e. c.in_default.not-Finishing y n s (c.after_drop.ensures ∙ e)))

pub returns-in_default-clause-tells : goal.returns-in_default-clause-tells
returns-in_default-clause-tells g c = (ends_now g.L.KeyLayout.layout c.args.seat.now.me.0, refl)
