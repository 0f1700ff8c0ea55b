use Rattle.std.proofs.Common.{⊎_elim, List, sym, subst, arith}
use Rattle.std.specs.Bool.{then_some}
use Rattle.sh_history.specs.declared.log.LogEntry.{LogEntry}
use Rattle.sh_slots.specs.Slots.{slot_ref_of}
use Rattle.sh_slots.specs.declared.enter.GetAnswer.{GetAnswer}
use Rattle.sh_slots.specs.declared.hand.Hand.TheVariants.{Idle, Leaving}
use Rattle.sh_step.specs.Plans.{plan_of}
use Rattle.sh_step.specs.Rows.{hand}
use Rattle.sh_pass.specs.Growing.{Grows, GetEnters, GetGrows, with_slot}
use Rattle.sh_pass.proofs.DecidedLaws.{get_decided}
use Rattle.sh_pass.proofs.GrowthLaws.{left_on}
use Rattle.sh_pass.proofs.entering.get_at.Goals as goal

pub returns-in-Crowded-clause-first : goal.returns-in-Crowded-clause-first
returns-in-Crowded-clause-first g c = get_decided c.args.seat.now.me.0 c.enter_to_get-answer.new.seat.me.0
    c.give_back_refused-is_own.new.seat.me.0 (plan_of g.L.KeyLayout.layout c.args.seat.now.me.0.shape) c.args.key
    c.args.name _
    c.enter_to_get-answer.ensures.first c.give_back_refused-is_own.ensures.grows

pub returns-in-Crowded-clause-grows : goal.returns-in-Crowded-clause-grows
returns-in-Crowded-clause-grows g c =
    let v = c.args.seat.now.me.0 in
    let w = c.enter_to_get-answer.new.seat.me.0 in
    let u = c.give_back_refused-is_own.new.seat.me.0 in
    let E : GetAnswer → Type 0 = λ a. GetEnters c.args.key c.args.name a v w in
    let P : GetAnswer → Type 0 = λ a. GetGrows c.args.key a c.then_some.result v u in
    let left : (es : List LogEntry) → Grows (hand v.own.body (Leaving (slot_ref_of c.args.name))) es 1 v w
    → Grows (with_slot (hand v.own.body Idle) c.then_some.result) es 7 v u = λ es e.
    subst (λ r. Grows (with_slot (hand v.own.body Idle) r) es 7 v u) (sym c.then_some.ensures)
    (left_on 7 (slot_ref_of c.args.name) (then_some c.give_back_refused-is_own.result c.slot_ref-slot_ref.result) e
    c.give_back_refused-is_own.ensures.grows (omega arith)) in
    ⊎_elim (λ is. subst P (sym is) (left _ (subst E is c.enter_to_get-answer.ensures.grows)))
    (λ is. subst P (sym is) (left _ (subst E is c.enter_to_get-answer.ensures.grows))) c.in-Crowded.is
