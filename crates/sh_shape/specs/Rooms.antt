-- Shapes with room for values: which shape has the room, which is the least, and when there is none.
use Rattle.std.specs.Prelude.{◌≡◌, ℕ, ◌*◌, ◌≤◌, Some}
use Rattle.sh_key.specs.Layout.{Layout}
use Rattle.sh_shape.specs.Classes.{class_of, slots}
use Rattle.sh_shape.specs.Places.{pages_of}
use Rattle.sh_shape.specs.Shape.{Numbers, IsShape, Fits}

-- the pages of one shard have slots for this many values of this many words
pub record HasRoom (values words : ℕ) (n : Numbers) : Type 0 where
  pub class : ℕ
  pub is_class : class_of words ≡ Some class
  pub room : values ≤ pages_of n * slots class

-- a shape of the layout with a shard for each owner and this many passes, in which each shard has room for the values
pub record IsRoomy (layout : Layout) (owners values words passes : ℕ) (n : Numbers) : Type 0 where
  pub shards_are : n.shards ≡ owners
  pub passes_are : n.passes ≡ passes
  pub is_shape : IsShape n
  pub fits : Fits layout n
  pub room : HasRoom values words n

-- it is such a shape, and none has fewer segments
pub record IsLeastRoomy (layout : Layout) (owners values words passes : ℕ) (n : Numbers) : Type 0 where
  pub roomy : IsRoomy layout owners values words passes n
  pub least : (other : Numbers) → IsRoomy layout owners values words passes other → n.segments ≤ other.segments

-- there is no such shape
abbrev pub NoneRoomy : Layout → (owners values words passes : ℕ) → Type 0
NoneRoomy layout owners values words passes = (n : Numbers) → IsRoomy layout owners values words passes n → ⊥
