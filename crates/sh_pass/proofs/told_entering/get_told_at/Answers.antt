use Rattle.std.proofs.Common.{◌+◌, refl, ⊎_elim, List, Option, sym, subst, arith}
use Rattle.std.specs.Bool.{then_some}
use Rattle.sh_history.specs.declared.log.LogEntry.{LogEntry}
use Rattle.sh_slots.specs.Slots.{slot_ref_of}
use Rattle.sh_slots.specs.declared.enter.GetAnswer.{GetAnswer}
use Rattle.sh_slots.specs.declared.hand.Hand.TheVariants.{Idle, Leaving}
use Rattle.sh_slots.specs.declared.hand.SlotRef.{SlotRef}
use Rattle.sh_step.specs.Plans.{plan_of}
use Rattle.sh_step.specs.Rows.{hand}
use Rattle.sh_pass.specs.Growing.{Grows, GetEnters, GetGrowsWithin, with_slot}
use Rattle.sh_pass.specs.Telling.{words_asked}
use Rattle.sh_pass.proofs.DecidedLaws.{get_decided}
use Rattle.sh_pass.proofs.Entered.{entered_shape}
use Rattle.sh_pass.proofs.EndsTold.{tells_after}
use Rattle.sh_pass.proofs.GrowthLaws.{left_on}
use Rattle.sh_pass.proofs.told_entering.get_told_at.Goals as goal

pub returns-in-Crowded-clause-first : goal.returns-in-Crowded-clause-first
returns-in-Crowded-clause-first g c = get_decided c.args.seat.now.me.0 c.enter_to_get-answer.new.seat.me.0
    c.give_back_told-ended.new.seat.me.0 (plan_of g.L.KeyLayout.layout c.args.seat.now.me.0.shape) c.args.key
    c.args.name _
    c.enter_to_get-answer.ensures.first c.give_back_told-ended.ensures.grows

pub returns-in-Crowded-clause-grows : goal.returns-in-Crowded-clause-grows
returns-in-Crowded-clause-grows g c =
    let v = c.args.seat.now.me.0 in
    let w = c.enter_to_get-answer.new.seat.me.0 in
    let u = c.give_back_told-ended.new.seat.me.0 in
    let more = words_asked g.M.EndRoom.asks in
    let E : GetAnswer → Type 0 = λ a. GetEnters c.args.key c.args.name a v w in
    let P : GetAnswer → Type 0 = λ a. GetGrowsWithin more c.args.key a c.then_some.result v u in
    let left : (es : List LogEntry) → Grows (hand v.own.body (Leaving (slot_ref_of c.args.name))) es 1 v w
    → Grows (with_slot (hand v.own.body Idle) c.then_some.result) es (7 + more) v u = λ es e.
    subst (λ (r : Option SlotRef). Grows (with_slot (hand v.own.body Idle) r) es (7 + more) v u) (sym c.then_some.ensures)
    (left_on (7 + more) (slot_ref_of c.args.name)
    (then_some c.give_back_told-ended.result.1 c.slot_ref-slot_ref.result) e
    c.give_back_told-ended.ensures.grows (omega arith)) in
    ⊎_elim (λ is. subst P (sym is) (left _ (subst E is c.enter_to_get-answer.ensures.grows)))
    (λ is. subst P (sym is) (left _ (subst E is c.enter_to_get-answer.ensures.grows))) c.in-Crowded.is

pub returns-in-Crowded-clause-tells : goal.returns-in-Crowded-clause-tells
returns-in-Crowded-clause-tells g c =
    let v = c.args.seat.now.me.0 in
    let w = c.enter_to_get-answer.new.seat.me.0 in
    tells_after g.M.EndRoom.asks g.M.EndRoom.takes g.L.KeyLayout.layout v w c.give_back_told-ended.new.seat.me.0
    c.give_back_told-ended.result.0 c.args.room.now c.give_back_told-ended.new.room
    (entered_shape c.args.key c.args.name c.enter_to_get-answer.result v w c.enter_to_get-answer.ensures.grows)
    c.enter_to_get-answer.ensures.ends c.give_back_told-ended.ensures.tells

pub returns-in-Got-clause-tells : goal.returns-in-Got-clause-tells
returns-in-Got-clause-tells g c = (c.enter_to_get-answer.ensures.ends, refl)
