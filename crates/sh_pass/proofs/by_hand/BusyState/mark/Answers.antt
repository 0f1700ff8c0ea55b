use Rattle.std.proofs.Common.{Some, None, refl, ◌∙◌, sym}
use Rattle.sh_step.specs.declared.action.Action.TheVariants as action
use Rattle.sh_step.specs.declared.moves.Move.TheVariants as move
use Rattle.sh_step.proofs.MoveLaws.{no_mark}
use Rattle.sh_pass.proofs.MayLaws.{may_mark}
use Rattle.sh_pass.proofs.BusyLaws.{not_removing, refused_row, named_here, done}
use Rattle.sh_pass.proofs.by_hand.BusyState.mark.Goals as goal

pub returns-in_default : goal.returns-in_default
returns-in_default g c = record {
  busy = c.requires;
  acts = not_removing g.L.KeyLayout.layout c.args.self.now.seated.seat.me.0
      c.args.self.now.hand c.requires.hand c.in_default.not-Removing;
}

pub returns-in_default-place_of_key-clause-acts : goal.returns-in_default-place_of_key-clause-acts
returns-in_default-place_of_key-clause-acts g c = refused_row g.L.KeyLayout.layout c.args.self.now.seated.seat.me.0
    action.Mark (no_mark _ c.args.self.now.seated.seat.me.0.own.body c.in-Removing.key
    (named_here g.L.KeyLayout.layout c.shape.result.now c.args.self.now.seated.seat.me.0.shape c.in-Removing.key _ None
    (c.shape.ensures ∙ sym c.requires.seat.shape) c.place_of_key.ensures c.in_default-place_of_key.is)
    (c.requires.hand ∙ c.in-Removing.is))

pub mark-requires : goal.mark-requires
mark-requires g c = record {
  seat = c.requires.seat;
  may = may_mark _ c.args.self.now.seated.seat.me.0.own.body
      c.in-Removing.key c.in-Some.name (c.requires.hand ∙ c.in-Removing.is)
      (named_here g.L.KeyLayout.layout c.shape.result.now c.args.self.now.seated.seat.me.0.shape c.in-Removing.key _
      (Some c.in-Some.name) (c.shape.ensures ∙ sym c.requires.seat.shape) c.place_of_key.ensures c.in-Some.is);
}

pub returns-clause-acts : goal.returns-clause-acts
returns-clause-acts g c = done action.Mark (move.Mark c.in-Removing.key c.in-Some.name) refl
    (may_mark _ c.args.self.now.seated.seat.me.0.own.body c.in-Removing.key c.in-Some.name
    (c.requires.hand ∙ c.in-Removing.is)
    (named_here g.L.KeyLayout.layout c.shape.result.now c.args.self.now.seated.seat.me.0.shape c.in-Removing.key _
    (Some c.in-Some.name) (c.shape.ensures ∙ sym c.requires.seat.shape) c.place_of_key.ensures c.in-Some.is))
    c.mark.ensures
