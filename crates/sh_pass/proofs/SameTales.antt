-- Shape, pass and tale stay as they were, and the trail goes on, over one step or call after another.
use Rattle.std.proofs.Common.{◌≡◌, ℕ, List, [], ◌∷◌, ◌++◌, refl, ap, ◌∙◌, sym, append-nil, append_assoc}
use Rattle.sh_step.specs.declared.action.Action.{Action}
use Rattle.sh_step.specs.declared.footstep.Footstep.{Footstep}
use Rattle.sh_step.specs.Footsteps.{footstep_of}
use Rattle.sh_step.specs.Rows.{Row}
use Rattle.sh_table.specs.declared.view.View.{View}
use Rattle.sh_table.specs.Views.{after}
use Rattle.sh_pass.specs.Growing.{SameTale}

pub same_now : (v : View) → SameTale v v
same_now v = record {
  shape = refl;
  pass = refl;
  told = refl;
  orders = refl;
  trail = ([], sym (append-nil v.own.trail));
}

pub later_same : {v w u : View} → SameTale v w → SameTale w u → SameTale v u
later_same {v} a b = record {
  shape = b.shape ∙ a.shape;
  pass = b.pass ∙ a.pass;
  told = b.told ∙ a.told;
  orders = b.orders ∙ a.orders;
  trail = (
    a.trail.0 ++ b.trail.0,
    b.trail.1 ∙ (ap (λ (t : List Footstep). t ++ b.trail.0) a.trail.1
        ∙ append_assoc v.own.trail a.trail.0 b.trail.0),
  );
}

-- one step
pub stepped_same : {v w : View} (x : Action) (r : Row) (n : ℕ) → w ≡ after x r v n → SameTale v w
stepped_same x r n e = record {
  shape = ap (λ (u : View). u.shape) e;
  pass = ap (λ (u : View). u.pass) e;
  told = ap (λ (u : View). u.told) e;
  orders = ap (λ (u : View). u.orders) e;
  trail = (footstep_of x r n ∷ [], ap (λ (u : View). u.own.trail) e);
}
