-- The list of the table's words as a heap opens.
use Rattle.std.specs.Prelude.{ℕ, ◌≡◌, zero, suc, ◌*◌, ◌%◌, ◌^◌, nat_lt, cond, ◌&&◌, List, [], ◌∷◌, ◌++◌}
use Rattle.sh_key.specs.Layout.{Layout, IsLayout}
use Rattle.sh_shape.specs.Shape.{Numbers, IsShape, Fits}
use Rattle.sh_step.specs.Plans.{plan_of}
use Rattle.sh_core.specs.Worlds.{open_world}
use Rattle.sh_table.specs.TableNumbers.{HoldsInTable}

-- the states are the first 48 words of a page
abbrev pub opening_word : (pages number : ℕ) → ℕ
opening_word pages number = cond (nat_lt number (192 * pages) && nat_lt (number % 192) 48) (2 ^ 32) 0

-- the first `count` words
unfoldable pub opening_words : (pages count : ℕ) → List ℕ
opening_words pages zero = []
opening_words pages (suc n) = opening_words pages n ++ opening_word pages n ∷ []

-- a heap of this shape, which fits the layout, opens with these words
pub record OpensTableWith (layout : Layout) (shape : Numbers) (list : List ℕ) : Type 0 where
  pub is_layout : IsLayout layout
  pub is_shape : IsShape shape
  pub fits : Fits layout shape
  pub words : HoldsInTable shape list (open_world (plan_of layout shape)).words
