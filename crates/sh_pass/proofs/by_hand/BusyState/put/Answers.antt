use Rattle.std.proofs.Common.{refl, ◌∙◌}
use Rattle.sh_step.specs.declared.action.Action.TheVariants as action
use Rattle.sh_step.specs.declared.moves.Move.TheVariants as move
use Rattle.sh_pass.proofs.MayLaws.{may_put}
use Rattle.sh_pass.proofs.BusyLaws.{not_to_put, done}
use Rattle.sh_pass.proofs.by_hand.BusyState.put.Goals as goal

pub returns-in_default : goal.returns-in_default
returns-in_default g c = record {
  busy = c.requires;
  acts = not_to_put g.L.KeyLayout.layout c.args.self.now.seated.seat.me.0
      c.args.self.now.hand c.requires.hand c.in_default.not-ToPut;
}

pub put-head-requires : goal.put-head-requires
put-head-requires g c = record {
  seat = c.requires.seat;
  may = may_put _ c.args.self.now.seated.seat.me.0.own.body
      c.in-ToPut.slot_ref (c.requires.hand ∙ c.in-ToPut.is);
}

pub returns-clause-acts : goal.returns-clause-acts
returns-clause-acts g c = done action.Put (move.Put c.in-ToPut.slot_ref) refl
    (may_put _ c.args.self.now.seated.seat.me.0.own.body c.in-ToPut.slot_ref (c.requires.hand ∙ c.in-ToPut.is))
    c.put-head.ensures
