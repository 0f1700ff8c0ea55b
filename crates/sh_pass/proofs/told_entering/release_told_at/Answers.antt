use Rattle.std.proofs.Common.{Option, ◌+◌, [], ◌∷◌, refl, ap, sym, subst, arith}
use Rattle.std.specs.Bool.{then_some}
use Rattle.sh_history.specs.declared.entry.Entry.TheVariants as entry
use Rattle.sh_history.specs.declared.log.LogEntry.TheVariants.{Known}
use Rattle.sh_slots.specs.declared.hand.Hand.TheVariants.{Idle}
use Rattle.sh_slots.specs.declared.hand.SlotRef.{SlotRef}
use Rattle.sh_step.specs.declared.action.Action.TheVariants as action
use Rattle.sh_step.specs.declared.moves.Move.TheVariants as move
use Rattle.sh_step.specs.declared.body.Body.{Body}
use Rattle.sh_step.specs.Rows.{hand, freed}
use Rattle.sh_pass.specs.Growing.{Grows, with_slot}
use Rattle.sh_pass.proofs.MayLaws.{may_drop_hold}
use Rattle.sh_pass.specs.Telling.{words_asked}
use Rattle.sh_pass.proofs.EndsTold.{ends_step, tells_after}
use Rattle.sh_pass.proofs.GrowthLaws.{grew, grows_on, grows_to}
use Rattle.sh_pass.proofs.DecidedLaws.{drop_begins}
use Rattle.sh_pass.proofs.told_entering.release_told_at.Goals as goal

pub drop_hold-found-requires : goal.drop_hold-found-requires
drop_hold-found-requires g c = record {
  seat = c.requires.seat;
  may = may_drop_hold _ c.args.seat.now.me.0.own.body
      c.args.key c.args.name c.requires.name c.requires.idle c.requires.held;
}

pub returns-clause-grows : goal.returns-clause-grows
returns-clause-grows g c =
    let v = c.args.seat.now.me.0 in
    let a = grew (action.DropHold c.args.key) (move.DropHold c.args.key c.args.name) c.drop_hold-found.ensures refl refl
    in
    let P : Option SlotRef → Type 0 = λ r. Grows (with_slot (hand (freed v.own.body c.args.key) Idle) r)
    (Known (entry.Released v.pass c.args.key) ∷ []) (6 + words_asked g.M.EndRoom.asks) v c.end_told-ended.new.seat.me.0 in
    subst P (sym c.then_some.ensures)
    (grows_to (6 + words_asked g.M.EndRoom.asks) _ (ap (λ (p : Body). with_slot (hand p Idle)
    (then_some c.end_told-ended.result.1 c.slot_ref-slot_ref.result))
    a.body) (grows_on (6 + words_asked g.M.EndRoom.asks) _ a c.end_told-ended.ensures.grows (omega arith)) (omega arith))

pub returns-clause-first : goal.returns-clause-first
returns-clause-first g c = drop_begins g.L.KeyLayout.layout _ c.args.key c.args.name c.drop_hold-found.result
    c.args.seat.now c.drop_hold-found.new.seat _ c.drop_hold-found.ensures c.end_told-ended.ensures.grows

pub returns-clause-tells : goal.returns-clause-tells
returns-clause-tells g c =
    let a = grew (action.DropHold c.args.key) (move.DropHold c.args.key c.args.name) c.drop_hold-found.ensures refl refl
    in
    tells_after g.M.EndRoom.asks g.M.EndRoom.takes g.L.KeyLayout.layout c.args.seat.now.me.0
    c.drop_hold-found.new.seat.me.0 c.end_told-ended.new.seat.me.0 c.end_told-ended.result.0 c.args.room.now
    c.end_told-ended.new.room a.same.shape (ends_step (action.DropHold c.args.key)
    (move.DropHold c.args.key c.args.name) c.requires.seat c.drop_hold-found.ensures) c.end_told-ended.ensures.tells
