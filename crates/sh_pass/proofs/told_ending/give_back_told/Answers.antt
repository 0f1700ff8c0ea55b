use Rattle.std.proofs.Common.{◌+◌, refl, ap, arith}
use Rattle.std.specs.Bool.{then_some}
use Rattle.sh_slots.specs.declared.hand.Hand.TheVariants.{Idle}
use Rattle.sh_step.specs.declared.action.Action.TheVariants as action
use Rattle.sh_step.specs.declared.moves.Move.TheVariants as move
use Rattle.sh_step.specs.declared.body.Body.{Body}
use Rattle.sh_step.specs.Rows.{hand}
use Rattle.sh_pass.specs.Growing.{with_slot}
use Rattle.sh_pass.specs.Telling.{words_asked}
use Rattle.sh_pass.proofs.EndsTold.{ends_step, tells_after}
use Rattle.sh_pass.proofs.MayLaws.{may_drop}
use Rattle.sh_pass.proofs.GrowthLaws.{grew, grows_on, grows_to}
use Rattle.sh_pass.proofs.told_ending.give_back_told.Goals as goal

pub drop_count-found-requires : goal.drop_count-found-requires
drop_count-found-requires g c = record {
  seat = c.requires.seat;
  may = may_drop _ c.args.seat.now.me.0.own.body
      c.args.slot_ref c.requires.hand;
}

pub returns-clause-grows : goal.returns-clause-grows
returns-clause-grows g c =
    let a = grew action.Drop (move.Drop c.args.slot_ref) c.drop_count-found.ensures refl refl in
    grows_to (6 + words_asked g.M.EndRoom.asks) _
    (ap (λ (p : Body). with_slot (hand p Idle) (then_some c.end_told.result.1 c.args.slot_ref)) a.body)
    (grows_on (6 + words_asked g.M.EndRoom.asks) _ a c.end_told.ensures.grows (omega arith)) (omega arith)

pub returns-clause-tells : goal.returns-clause-tells
returns-clause-tells g c =
    let a = grew action.Drop (move.Drop c.args.slot_ref) c.drop_count-found.ensures refl refl in
    tells_after g.M.EndRoom.asks g.M.EndRoom.takes g.L.KeyLayout.layout c.args.seat.now.me.0
    c.drop_count-found.new.seat.me.0 c.end_told.new.seat.me.0 c.end_told.result.0 c.args.room.now c.end_told.new.room
    a.same.shape (ends_step action.Drop (move.Drop c.args.slot_ref) c.requires.seat c.drop_count-found.ensures)
    c.end_told.ensures.tells
