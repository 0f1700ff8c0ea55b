use Rattle.std.proofs.Common.{◌∙◌, refl, sym}
use Rattle.c_exports.proofs.Giving.{given, none_given}
use Rattle.c_exports.proofs.passes.leave_and_give_back.Goals as goal

pub returns-then-not-is_full : goal.returns-then-not-is_full
returns-then-not-is_full c = none_given _ (sym c.is_full.ensures ∙ c.if-not-is_full.true)

pub returns-in-Ok : goal.returns-in-Ok
returns-in-Ok c = given _ _ _ _ _ _ c.held.ensures.value c.in-Ok.ensures c.give_back.ensures

pub returns-in-Err : goal.returns-in-Err
returns-in-Err c = given _ _ _ _ _ _ c.held.ensures.value c.in-Err.ensures (c.number.ensures, refl)
