use Rattle.std.proofs.Common.{refl, ◌∙◌}
use Rattle.sh_step.specs.declared.action.Action.TheVariants as action
use Rattle.sh_step.specs.declared.moves.Move.TheVariants as move
use Rattle.sh_pass.proofs.MayLaws.{may_ring}
use Rattle.sh_pass.proofs.BusyLaws.{not_ringing, done}
use Rattle.sh_pass.proofs.by_hand.BusyState.ring.Goals as goal

pub returns-in_default : goal.returns-in_default
returns-in_default g c = record {
  busy = c.requires;
  acts = not_ringing g.L.KeyLayout.layout c.args.self.now.seated.seat.me.0
      c.args.self.now.hand c.requires.hand c.in_default.not-Ringing;
}

pub ring-next-requires : goal.ring-next-requires
ring-next-requires g c = record {
  seat = c.requires.seat;
  may = may_ring _ c.args.self.now.seated.seat.me.0.own.body
      c.in-Ringing.page (c.requires.hand ∙ c.in-Ringing.is);
}

pub returns-clause-acts : goal.returns-clause-acts
returns-clause-acts g c = done action.Ring (move.Ring c.in-Ringing.page) refl
    (may_ring _ c.args.self.now.seated.seat.me.0.own.body c.in-Ringing.page (c.requires.hand ∙ c.in-Ringing.is))
    c.ring-next.ensures
