-- Notes, and the newest note of each number, which is kept beside them.
use Rattle.std.specs.Prelude.{ℕ, ◌≡◌, List}
use Rattle.sh_step.specs.Collections.{noted}

-- both lists note the same for every number
unfoldable pub NoteTheSame : List (ℕ × ℕ) → List (ℕ × ℕ) → Type 0
NoteTheSame newest notes = (q : ℕ) → noted q newest ≡ noted q notes
