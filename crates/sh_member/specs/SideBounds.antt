-- The number of steps that the calls of a member take at most, whatever others do.
use Rattle.std.specs.Prelude.{◌≡◌, ℕ}
use Rattle.sh_shape.specs.Places.{pages_of}
use Rattle.sh_shard.specs.Bounds.{InsertIsBounded, PrepareIsBounded, adopt_steps, leave_steps}
use Rattle.sh_shard.specs.Steps.{StepsAtMost}
use Rattle.sh_member.specs.declared.member.Side.TheVariants.{Pass, Shard}
use Rattle.sh_member.specs.Sides.{SeenSide}

-- an insert of a value of this many words: the owner's bound, and no step of a pass that owns no shard
abbrev pub InsertTakes : (words : ℕ) → SeenSide → SeenSide → Type 0
InsertTakes words (Pass v) new = new ≡ Pass v
InsertTakes words (Shard o) (Shard n) = InsertIsBounded words o n
InsertTakes words (Shard o) (Pass w) = ⊥

-- a prepare: the same
abbrev pub PrepareTakes : SeenSide → SeenSide → Type 0
PrepareTakes (Pass v) new = new ≡ Pass v
PrepareTakes (Shard o) (Shard n) = PrepareIsBounded o n
PrepareTakes (Shard o) (Pass w) = ⊥

-- an adoption: the pass's bound, whatever it becomes, and no step of the owner of a shard
abbrev pub AdoptTakes : SeenSide → SeenSide → Type 0
AdoptTakes (Pass v) (Shard n) = StepsAtMost (adopt_steps (pages_of v.view.shape)) v n.pages.owner
AdoptTakes (Pass v) (Pass w) = StepsAtMost (adopt_steps (pages_of v.view.shape)) v w
AdoptTakes (Shard o) new = new ≡ Shard o

-- leaving: the owner's bound, whatever it becomes, and no step of a pass that owns no shard
abbrev pub LeaveTakes : SeenSide → SeenSide → Type 0
LeaveTakes (Shard o) (Pass w) = StepsAtMost (leave_steps o.pages.count) o.pages.owner w
LeaveTakes (Shard o) (Shard n) = StepsAtMost (leave_steps o.pages.count) o.pages.owner n.pages.owner
LeaveTakes (Pass v) new = new ≡ Pass v
