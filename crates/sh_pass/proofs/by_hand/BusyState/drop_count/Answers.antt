use Rattle.std.proofs.Common.{refl, ◌∙◌}
use Rattle.sh_step.specs.declared.action.Action.TheVariants as action
use Rattle.sh_step.specs.declared.moves.Move.TheVariants as move
use Rattle.sh_pass.proofs.MayLaws.{may_drop}
use Rattle.sh_pass.proofs.BusyLaws.{not_leaving, done}
use Rattle.sh_pass.proofs.by_hand.BusyState.drop_count.Goals as goal

pub returns-in_default : goal.returns-in_default
returns-in_default g c = record {
  busy = c.requires;
  acts = not_leaving g.L.KeyLayout.layout c.args.self.now.seated.seat.me.0
      c.args.self.now.hand c.requires.hand c.in_default.not-Leaving;
}

pub drop_count-found-requires : goal.drop_count-found-requires
drop_count-found-requires g c = record {
  seat = c.requires.seat;
  may = may_drop _ c.args.self.now.seated.seat.me.0.own.body
      c.in-Leaving.slot_ref (c.requires.hand ∙ c.in-Leaving.is);
}

pub returns-clause-acts : goal.returns-clause-acts
returns-clause-acts g c = done action.Drop (move.Drop c.in-Leaving.slot_ref) refl
    (may_drop _ c.args.self.now.seated.seat.me.0.own.body c.in-Leaving.slot_ref (c.requires.hand ∙ c.in-Leaving.is))
    c.drop_count-found.ensures
