-- What contracts see of what a pass did.
use Rattle.std.specs.Prelude.{ℕ, ◌+◌, List, [], ◌∷◌, ◌++◌}
use Rattle.script_orders.specs.declared.lane.Lane.{Lane}
use Rattle.script_orders.specs.declared.lane.Step.{Step}

pub record Did : Type 0 where
  pub behind : ℕ
  pub story : List Step
  pub replies : List ℕ

abbrev pub did : Lane → Did
did lane = record { behind = lane.behind; story = lane.story.items; replies = lane.replies.items }

abbrev pub nothing : Did
nothing = record { behind = 0; story = []; replies = [] }

-- and then the line, which found this, and by which this was replied
abbrev pub and_then : Did → (line seen : ℕ) → List ℕ → Did
and_then d line seen reply = record {
  behind = line + 1;
  story = d.story ++ record { line = line; seen = seen } ∷ [];
  replies = d.replies ++ reply;
}
