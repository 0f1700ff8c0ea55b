-- A member does as its pass, or as the owner that it is.
use Rattle.std.proofs.Common.{◌≡◌, refl}
use Rattle.sh_key.specs.Layout.{Layout}
use Rattle.sh_shape.specs.Shape.{Numbers}
use Rattle.sh_pass.specs.Passes.{Caller}
use Rattle.sh_pass.specs.Remaining.{Remains}
use Rattle.sh_member.specs.declared.member.Side.TheVariants.{Pass, Shard}
use Rattle.sh_member.specs.Sides.{SeenSide, SideDoes, SideIsValid, HasShape, caller_by}

module _ {A : Type 0} (layout : Layout) (does : Caller → A → Caller → Type 0) (answer : A) where
  -- what the call did is done by the pass or the owner
  pub caller_did : (m n : SeenSide) → SideDoes layout does m answer n → does (caller_by m) answer (caller_by n)
  caller_did (Pass v) (Pass w) did = did.0
  caller_did (Pass v) (Shard n) did = absurd did
  caller_did (Shard o) (Shard n) did = did.0
  caller_did (Shard o) (Pass w) did = absurd did

  -- and all else is as it was
  pub caller_remains : (m n : SeenSide) → SideDoes layout does m answer n → Remains layout (caller_by m) (caller_by n)
  caller_remains (Pass v) (Pass w) did = did.1
  caller_remains (Pass v) (Shard n) did = absurd did
  caller_remains (Shard o) (Shard n) did = did.1.remains
  caller_remains (Shard o) (Pass w) did = absurd did

-- between its calls a member is as it is, and all that it knows is true
pub caller_rests : (layout : Layout) (m : SeenSide) → SideIsValid layout m → Remains layout (caller_by m) (caller_by m)
caller_rests layout (Pass v) valid = record {
  heap = refl;
  shard = refl;
  idle = valid.0.idle;
  shape = valid.0.shape;
  stood = valid.1;
  stands = valid.1;
}
caller_rests layout (Shard o) valid = record {
  heap = refl;
  shard = refl;
  idle = valid.idle;
  shape = valid.shape;
  stood = valid.stands;
  stands = valid.stands;
}

-- its heap has this shape
pub caller_shape : (m : SeenSide) (shape : Numbers) → HasShape m shape → shape ≡ (caller_by m).heap.shape
caller_shape (Pass v) shape is = is
caller_shape (Shard o) shape is = is
