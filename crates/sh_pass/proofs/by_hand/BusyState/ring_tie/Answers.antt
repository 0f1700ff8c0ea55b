use Rattle.std.proofs.Common.{refl, ◌∙◌}
use Rattle.sh_step.specs.declared.action.Action.TheVariants as action
use Rattle.sh_step.specs.declared.moves.Move.TheVariants as move
use Rattle.sh_pass.proofs.MayLaws.{may_ring_tie}
use Rattle.sh_pass.proofs.BusyLaws.{not_ring_tying, done}
use Rattle.sh_pass.proofs.by_hand.BusyState.ring_tie.Goals as goal

pub returns-in_default : goal.returns-in_default
returns-in_default g c = record {
  busy = c.requires;
  acts = not_ring_tying g.L.KeyLayout.layout
      c.args.self.now.seated.seat.me.0 c.args.self.now.hand c.requires.hand c.in_default.not-RingTying;
}

pub ring_tie-requires : goal.ring_tie-requires
ring_tie-requires g c = record {
  seat = c.requires.seat;
  may = may_ring_tie _ c.args.self.now.seated.seat.me.0.own.body
      c.in-RingTying.page c.in-RingTying.link (c.requires.hand ∙ c.in-RingTying.is);
}

pub returns-clause-acts : goal.returns-clause-acts
returns-clause-acts g c = done action.RingTie (move.RingTie c.in-RingTying.page c.in-RingTying.link) refl
    (may_ring_tie _ c.args.self.now.seated.seat.me.0.own.body c.in-RingTying.page c.in-RingTying.link
    (c.requires.hand ∙ c.in-RingTying.is)) c.ring_tie.ensures
