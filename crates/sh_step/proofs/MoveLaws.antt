-- The row of an action, by its move; there is no row if the heap does not have what the action names.
use Rattle.std.proofs.Common.{◌≡◌, ℕ, Option, None, refl, sym, ap}
use Rattle.std.specs.Prelude.{option_map}
use Rattle.sh_slots.specs.declared.hand.Hand.TheVariants.{Removing}
use Rattle.sh_step.specs.declared.action.Action.{Action}
use Rattle.sh_step.specs.declared.action.Action.TheVariants as action
use Rattle.sh_step.specs.declared.body.Body.{Body}
use Rattle.sh_step.specs.declared.moves.Move.{Move}
use Rattle.sh_step.specs.Moves.{row_of, row, move_of, place_named}
use Rattle.sh_step.specs.Plans.{Plan}

pub row_of_made : (plan : Plan) (p : Body) (x : Action) (m : Option Move) → m ≡ move_of plan p x → row plan p x
    ≡ option_map (row_of plan p) m
unfolding row
row_of_made plan p x m e = ap (option_map (row_of plan p)) (sym e)

module _ (plan : Plan) (p : Body) (k : ℕ) (none : place_named plan k ≡ None) where
  pub no_get : row plan p (action.EnterGet k) ≡ None
  unfolding row move_of
  no_get = rw none refl

  pub no_remove : row plan p (action.EnterRemove k) ≡ None
  unfolding row move_of
  no_remove = rw none refl

  pub no_drop : row plan p (action.DropHold k) ≡ None
  unfolding row move_of
  no_drop = rw none refl

  pub no_mark : p.hand ≡ Removing k → row plan p action.Mark ≡ None
  unfolding row move_of
  no_mark is = rw (is, none) refl
