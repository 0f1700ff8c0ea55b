-- When a walk over orders is cut.
use Rattle.std.specs.Prelude.{ℕ, ◌≡◌, ◌+◌, ◌<◌, List, length}
use Rattle.std.specs.List.{All, sum_by}
use Rattle.sh_key.specs.Layout.{Layout}
use Rattle.script_orders.specs.declared.found.Explored.{Explored}
use Rattle.script_orders.specs.declared.found.Explored.TheVariants.{Whole, Cut}
use Rattle.script_orders.specs.declared.found.Limit.{Limit}
use Rattle.script_orders.specs.declared.found.Limit.TheVariants as limit
use Rattle.script_orders.specs.declared.found.Program.{Program}
use Rattle.script_orders.specs.declared.state.State.{State}
use Rattle.script_orders.specs.Lanes.{Did}
use Rattle.script_orders.specs.Reached.{lanes_of, IsReached}
use Rattle.script_orders.specs.States.{AllDiffer}

-- how many steps were done
abbrev pub steps_done : State → ℕ
steps_done s = sum_by (λ (d : Did). length d.story) (lanes_of s)

-- after so many steps
abbrev pub AllAfter : (steps : ℕ) → List State → Type 0
AllAfter steps level = All (λ s. steps_done s ≡ steps) level

-- there are more states than may be met: an order leads to each, and no two are alike
pub record TooMany (layout : Layout) (p : Program) : Type 0 where
  pub met : List State
  pub reached : All (IsReached layout p) met
  pub differ : AllDiffer met
  pub many : p.limit < length met

-- a walk whose limit of states it was passed that limit
abbrev pub IsCutRightly : Layout → Program → Explored → Type 0
IsCutRightly layout p (Whole whole) = Unit {0}
IsCutRightly layout p (Cut cut) = cut.limit ≡ limit.States → TooMany layout p

-- The next level passes the limit: no two of its states are alike, each is reached by one step more than those of the
-- level, and if the limit is that of states there are more than these
pub record Passes (layout : Layout) (p : Program) (level : List State) (states : ℕ) (passed : Limit) : Type 0 where
  pub next : List State
  pub reached : All (IsReached layout p) next
  pub differ : AllDiffer next
  pub after : (steps : ℕ) → AllAfter steps level → AllAfter (steps + 1) next
  pub many : passed ≡ limit.States → states < length next
