-- What is proved of the counts.
use Rattle.std.specs.Prelude.{◌≡◌, ◌≤◌, ℕ}
use Rattle.tool_large.specs.declared.story.Story.{Story}

-- all values were inserted, both times, and the numbers of values read and removed are not greater
pub record TellsOf (values : ℕ) (s : Story) : Type 0 where
  pub inserted : s.inserted ≡ values
  pub right : s.right ≤ values
  pub removed : s.removed ≤ values
  pub again : s.again ≡ values
  pub stale : s.stale ≤ values
  pub right_again : s.right_again ≤ values
