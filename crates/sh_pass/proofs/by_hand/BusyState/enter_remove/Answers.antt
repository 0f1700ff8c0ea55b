use Rattle.std.proofs.Common.{Some, None, refl, ◌∙◌, sym}
use Rattle.sh_step.specs.declared.action.Action.TheVariants as action
use Rattle.sh_step.specs.declared.moves.Move.TheVariants as move
use Rattle.sh_step.proofs.MoveLaws.{no_remove}
use Rattle.sh_pass.proofs.MayLaws.{may_enter_remove}
use Rattle.sh_pass.proofs.BusyLaws.{not_idle_to_remove, refused_row, named_here, done}
use Rattle.sh_pass.proofs.by_hand.BusyState.enter_remove.Goals as goal

pub returns-in_default : goal.returns-in_default
returns-in_default g c = record {
  busy = c.requires;
  acts = not_idle_to_remove g.L.KeyLayout.layout
      c.args.self.now.seated.seat.me.0 c.args.key c.args.self.now.hand c.requires.hand c.in_default.not-Idle;
}

pub returns-in_default-place_of_key-clause-acts : goal.returns-in_default-place_of_key-clause-acts
returns-in_default-place_of_key-clause-acts g c = refused_row g.L.KeyLayout.layout c.args.self.now.seated.seat.me.0
    (action.EnterRemove c.args.key) (no_remove _ c.args.self.now.seated.seat.me.0.own.body c.args.key
    (named_here g.L.KeyLayout.layout c.shape.result.now c.args.self.now.seated.seat.me.0.shape c.args.key _ None
    (c.shape.ensures ∙ sym c.requires.seat.shape) c.place_of_key.ensures c.in_default-place_of_key.is))

pub enter_remove-found-requires : goal.enter_remove-found-requires
enter_remove-found-requires g c = record {
  seat = c.requires.seat;
  may = may_enter_remove _
      c.args.self.now.seated.seat.me.0.own.body c.args.key c.in-Some.name
      (named_here g.L.KeyLayout.layout c.shape.result.now c.args.self.now.seated.seat.me.0.shape c.args.key _
      (Some c.in-Some.name) (c.shape.ensures ∙ sym c.requires.seat.shape) c.place_of_key.ensures c.in-Some.is)
      (c.requires.hand ∙ c.in-Idle.is);
}

pub returns-clause-acts : goal.returns-clause-acts
returns-clause-acts g c = done (action.EnterRemove c.args.key) (move.EnterRemove c.args.key c.in-Some.name) refl
    (may_enter_remove _ c.args.self.now.seated.seat.me.0.own.body c.args.key c.in-Some.name
    (named_here g.L.KeyLayout.layout c.shape.result.now c.args.self.now.seated.seat.me.0.shape c.args.key _
    (Some c.in-Some.name) (c.shape.ensures ∙ sym c.requires.seat.shape) c.place_of_key.ensures c.in-Some.is)
    (c.requires.hand ∙ c.in-Idle.is)) c.enter_remove-found.ensures
