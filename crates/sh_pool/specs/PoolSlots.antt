-- Pool slots, and pools of them.
use Rattle.std.specs.Prelude.{◌≡◌, ℕ, ◌+◌, ◌<◌, Option, Some, Result, Ok, Err, List, [], ◌∷◌, length, get_or}
use Rattle.sh_key.specs.Layout.{Layout}
use Rattle.sh_shape.specs.Shape.{Numbers, Fits}
use Rattle.sh_value.specs.declared.refusal.Refusal.{Refusal}
use Rattle.sh_value.specs.declared.refusal.Refusal.TheVariants as refusal
use Rattle.sh_table.specs.Seats.{Heap}
use Rattle.sh_pass.specs.Passes.{Caller}

-- what a pool slot is for: which heap, and the number of the pass
abbrev pub Home : Type 0
Home = Heap × ℕ

-- there is a box, and a pass is in it
abbrev pub HasPass : Option (Option Caller) → Type 0
HasPass o = (v : Caller) × (o ≡ Some (Some v))

-- the same for the pass of this number of this heap
abbrev pub RestsOf : Home → Option (Option Caller) → Type 0
RestsOf home o = (v : Caller) × (o ≡ Some (Some v)) × (v.heap ≡ home.0) × (v.view.pass ≡ home.1)

-- these are the last of a heap's `total` passes, in order
abbrev pub AreLast : Heap → (total : ℕ) → List Caller → Type 0
AreLast heap total [] = Unit {0}
AreLast heap total (p ∷ ps) = (p.heap ≡ heap) × (p.view.pass + (length ps + 1) ≡ total) × AreLast heap total ps

-- the pool slots of a pool, by what they are for: one pool slot for each pass of this heap, and pool slot n for pass n
pub record ArePoolSlots (heap : Heap) (pool_slots : List Home) : Type 0 where
  pub count : length pool_slots ≡ heap.shape.passes
  pub of : (n : ℕ) (d : Home) → n < length pool_slots → get_or pool_slots n d ≡ (heap, n)

-- a pool of a heap of this shape is opened, unless the shape does not fit the layout or memory is refused
abbrev pub OpensPool : Layout → Numbers → Result Heap Refusal → Type 0
OpensPool layout shape (Ok heap) = Fits layout shape × (heap.shape ≡ shape)
OpensPool layout shape (Err refusal.BadShape) = ¬ Fits layout shape
OpensPool layout shape (Err refusal.Memory) = Fits layout shape
OpensPool layout shape (Err _) = ⊥
