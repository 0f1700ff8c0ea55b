use Rattle.std.proofs.Common.{refl, ◌∙◌}
use Rattle.sh_step.specs.declared.action.Action.TheVariants as action
use Rattle.sh_step.specs.declared.moves.Move.TheVariants as move
use Rattle.sh_pass.proofs.MayLaws.{may_tie}
use Rattle.sh_pass.proofs.BusyLaws.{not_tying, done}
use Rattle.sh_pass.proofs.by_hand.BusyState.tie.Goals as goal

pub returns-in_default : goal.returns-in_default
returns-in_default g c = record {
  busy = c.requires;
  acts = not_tying g.L.KeyLayout.layout c.args.self.now.seated.seat.me.0
      c.args.self.now.hand c.requires.hand c.in_default.not-Tying;
}

pub tie-requires : goal.tie-requires
tie-requires g c = record {
  seat = c.requires.seat;
  may = may_tie _ c.args.self.now.seated.seat.me.0.own.body c.in-Tying.slot_ref
      c.in-Tying.link c.in-Tying.armed (c.requires.hand ∙ c.in-Tying.is);
}

pub returns-clause-acts : goal.returns-clause-acts
returns-clause-acts g c = done action.Tie (move.Tie c.in-Tying.slot_ref c.in-Tying.link c.in-Tying.armed) refl
    (may_tie _ c.args.self.now.seated.seat.me.0.own.body c.in-Tying.slot_ref c.in-Tying.link c.in-Tying.armed
    (c.requires.hand ∙ c.in-Tying.is)) c.tie.ensures
