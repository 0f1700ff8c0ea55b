-- The heap on which an order was done.
use Rattle.std.proofs.Common.{◌≡◌, ℕ, List, subst}
use Rattle.std.specs.Prelude.{Ok}
use Rattle.sh_key.specs.Layout.{Layout}
use Rattle.sh_core.specs.Kept.{KeptWorld, RunsWorld}
use Rattle.script_orders.specs.declared.found.Program.{Program}
use Rattle.script_orders.specs.Reached.{done_by, HasPlayed}

pub runs_by : (layout : Layout) (p : Program) (opening order xs : List ℕ) (k : KeptWorld)
    → HasPlayed layout p opening order k → order ≡ xs → RunsWorld layout p.shape (done_by p xs) (Ok k)
runs_by layout p opening order xs k played same =
    subst (λ (ys : List ℕ). RunsWorld layout p.shape (done_by p ys) (Ok k)) same played.plays
