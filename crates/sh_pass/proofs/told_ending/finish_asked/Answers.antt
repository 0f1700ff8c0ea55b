use Rattle.std.proofs.Common.{◌≡◌, ◌+◌, ◌==◌, ◌∙◌, Bool, true, false, [], refl, arith, subst, sym}
use Rattle.sh_slots.specs.declared.hand.Sight.TheVariants.{Bare}
use Rattle.sh_slots.specs.Slots.{marked_word}
use Rattle.sh_step.specs.Plans.{plan_of}
use Rattle.sh_step.specs.Rows.{finish}
use Rattle.sh_pass.specs.Growing.{Grows}
use Rattle.sh_pass.specs.Telling.{FinishTells, words_asked}
use Rattle.sh_pass.proofs.EndLoads.{can_finish, ending_begins, finish_grew, finish_just}
use Rattle.sh_pass.proofs.EndsTold.{finish_tells}
use Rattle.sh_pass.proofs.told_ending.finish_asked.Goals as goal

pub returns-then-asks-clause-grows : goal.returns-then-asks-clause-grows
returns-then-asks-clause-grows g c =
    let v = c.args.seat.now.me.0 in
    let P : Bool → Type 0 = λ b. Grows ((finish (plan_of g.L.KeyLayout.layout v.shape) v.own.body c.args.slot_ref
    c.args.generation).part c.read_and_finish.result) [] (1 + words_asked b) v c.read_and_finish.new.seat.me.0 in
    subst P (sym (sym c.asks.ensures ∙ c.if-asks.true)) c.read_and_finish.ensures.grows

pub returns-then-asks-clause-tells : goal.returns-then-asks-clause-tells
returns-then-asks-clause-tells g c =
    let P : Bool → Type 0 = λ b. FinishTells b g.M.EndRoom.takes g.L.KeyLayout.layout c.args.slot_ref c.args.generation
    (c.read_and_finish.result == marked_word c.args.generation) c.args.room.now c.read_and_finish.new.room
    c.args.seat.now.me.0 c.read_and_finish.new.seat.me.0 in
    subst P (sym (sym c.asks.ensures ∙ c.if-asks.true)) c.read_and_finish.ensures.tells

pub finish-requires : goal.finish-requires
finish-requires g c = can_finish c.args.slot_ref c.args.generation Bare 0 c.requires.seat
    (ending_begins g.L.KeyLayout.layout c.args.slot_ref c.args.generation c.requires.hand)

pub returns-else-asks-clause-grows : goal.returns-else-asks-clause-grows
returns-else-asks-clause-grows g c =
    let v = c.args.seat.now.me.0 in
    let P : Bool → Type 0 = λ b. Grows ((finish (plan_of g.L.KeyLayout.layout v.shape) v.own.body c.args.slot_ref
    c.args.generation).part c.finish.result) [] (1 + words_asked b) v c.finish.new.seat.me.0 in
    let r = ending_begins g.L.KeyLayout.layout c.args.slot_ref c.args.generation c.requires.hand in
    subst P (sym (sym c.asks.ensures ∙ c.if-asks.false))
    (finish_grew c.args.slot_ref c.args.generation Bare 0 c.requires.seat r c.finish.result 1 (omega arith)
    c.finish.ensures)

pub returns-else-asks-clause-tells : goal.returns-else-asks-clause-tells
returns-else-asks-clause-tells g c =
    let v = c.args.seat.now.me.0 in
    let w = c.finish.new.seat.me.0 in
    let found = c.finish.result == marked_word c.args.generation in
    let P : Bool → Type 0 = λ b. FinishTells b g.M.EndRoom.takes g.L.KeyLayout.layout c.args.slot_ref c.args.generation
    found c.args.room.now c.args.room.now v w in
    let r = ending_begins g.L.KeyLayout.layout c.args.slot_ref c.args.generation c.requires.hand in
    subst P (sym (sym c.asks.ensures ∙ c.if-asks.false))
    (finish_tells false g.M.EndRoom.takes g.L.KeyLayout.layout v w c.args.slot_ref c.args.generation Bare found
    c.args.room.now c.args.room.now (finish_just c.args.slot_ref c.args.generation Bare 0 c.requires.seat r
    c.finish.result c.finish.ensures) (λ _. refl) (λ _. refl))
