use Rattle.std.proofs.Common.{true, false, refl, ◌∙◌, sym, subst}
use Rattle.sh_slots.specs.declared.hand.Hand.{Hand}
use Rattle.sh_slots.specs.declared.hand.Hand.TheVariants.{Idle, ToPut}
use Rattle.sh_step.specs.declared.action.Action.TheVariants as action
use Rattle.sh_step.specs.declared.moves.Move.TheVariants as move
use Rattle.sh_pass.proofs.MayLaws.{may_finish}
use Rattle.sh_pass.specs.Busy.{IsBusy}
use Rattle.sh_pass.proofs.PartLaws.{finished_by}
use Rattle.sh_pass.proofs.BusyLaws.{not_finishing, done, busy_still}
use Rattle.sh_pass.proofs.by_hand.BusyState.finish.Goals as goal
use Rattle.sh_pass.proofs.by_hand.BusyState.finish.Goals.{then-is_reusable_after, else-is_reusable_after}

pub returns-in_default : goal.returns-in_default
returns-in_default g c = record {
  busy = c.requires;
  acts = not_finishing g.L.KeyLayout.layout c.args.self.now.seated.seat.me.0
      c.args.self.now.hand c.requires.hand c.in_default.not-Finishing;
}

pub finish-found-requires : goal.finish-found-requires
finish-found-requires g c = record {
  seat = c.requires.seat;
  may = may_finish _ c.args.self.now.seated.seat.me.0.own.body
      c.in-Finishing.slot_ref c.in-Finishing.generation _ (c.requires.hand ∙ c.in-Finishing.is);
}

pub returns-clause-acts : goal.returns-clause-acts
returns-clause-acts g c = done action.Finish (move.Finish c.in-Finishing.slot_ref c.in-Finishing.generation) refl
    (may_finish _ c.args.self.now.seated.seat.me.0.own.body c.in-Finishing.slot_ref c.in-Finishing.generation _
    (c.requires.hand ∙ c.in-Finishing.is)) c.finish-found.ensures

pub returns-clause-busy : goal.returns-clause-busy
returns-clause-busy g c =
    let P : Hand → Type 0 = λ h. IsBusy g.L.KeyLayout.layout c.args.table.now c.finish-found.new.seat
    c.args.self.now.seated.held.items c.args.self.now.seated.named h c.args.self.now.seated.number in
    elim c.if-is_reusable_after.branch [
      | then-is_reusable_after w ↦ subst P (sym w.self-is) (busy_still action.Finish
          (move.Finish c.in-Finishing.slot_ref c.in-Finishing.generation) (ToPut c.in-Finishing.slot_ref) c.requires
          c.finish-found.ensures (finished_by g.L.KeyLayout.layout c.args.self.now.seated.seat.me.0.shape
          c.args.self.now.seated.seat.me.0.own.body c.in-Finishing.slot_ref c.in-Finishing.generation
          c.finish-found.result c.gen_max.result _ true c.requires.left c.gen_max.ensures c.is_reusable_after.ensures
          w.if-is_reusable_after.true))
      | else-is_reusable_after w ↦ subst P (sym w.self-is) (busy_still action.Finish
          (move.Finish c.in-Finishing.slot_ref c.in-Finishing.generation) Idle c.requires c.finish-found.ensures
          (finished_by g.L.KeyLayout.layout c.args.self.now.seated.seat.me.0.shape
          c.args.self.now.seated.seat.me.0.own.body
          c.in-Finishing.slot_ref c.in-Finishing.generation c.finish-found.result c.gen_max.result _ false
          c.requires.left
          c.gen_max.ensures c.is_reusable_after.ensures w.if-is_reusable_after.false))
    ]
