-- The own part of a pass: what it knows of its own, its entries, and each of its steps with the word that it found.
use Rattle.std.specs.Prelude.{◌≡◌, ℕ, List, length, Ok}
use Rattle.sh_key.specs.Layout.{Layout}
use Rattle.sh_shape.specs.Shape.{Numbers}
use Rattle.sh_pass.specs.Growing.{GoesOn}
use Rattle.sh_table.specs.declared.view.Own.{Own}
use Rattle.sh_table.specs.declared.view.Told.{Told}
use Rattle.sh_member.specs.declared.member.Side.TheVariants.{Pass, Shard}
use Rattle.sh_member.specs.Sides.{SeenSide, SideLeaves, SideIsValid}
use Rattle.script_calls.specs.Parts.{PassPart}

-- the own part of the pass
abbrev pub own_part : SeenSide → Own
own_part (Pass v) = v.view.own
own_part (Shard o) = o.pages.owner.view.own

-- all that the pass knows is true, nothing is begun, and its entries are those of its own part
abbrev pub PartIsTrue : Layout → PassPart → Type 0
PartIsTrue layout v = SideIsValid layout v.stands × (v.log ≡ (own_part v.stands).log)

-- the passes that it took in, with their own parts
abbrev pub taken_in : SeenSide → List Told
taken_in (Pass v) = v.view.told
taken_in (Shard o) = o.pages.owner.view.told

-- the shape of the heap as it knows it
abbrev pub shape_in : SeenSide → Numbers
shape_in (Pass v) = v.view.shape
shape_in (Shard o) = o.pages.owner.view.shape

-- the shape is as before, and the steps before are the first of the steps after
pub record Follows (s t : SeenSide) : Type 0 where
  pub shape : shape_in t ≡ shape_in s
  pub trail : GoesOn (own_part s).trail (own_part t).trail

-- how many steps it did
abbrev pub steps_of : SeenSide → ℕ
steps_of s = length (own_part s).trail

-- the pass ends with this own part: if it owns a shard, the one that it has after it left, and otherwise its own
abbrev pub EndsWith : SeenSide → Own → Type 0
EndsWith (Pass v) own = own ≡ v.view.own
EndsWith (Shard o) own = (t : SeenSide) × SideLeaves (Shard o) (Ok tt) t × (own ≡ own_part t)
