-- The size of a heap that has room for values.
use Rattle.std.specs.Prelude.{◌≡◌, ℕ, zero, suc, ◌+◌, ◌*◌, ◌/◌, ◌<◌, ◌≤◌, max}
use Rattle.std.specs.Int.{div_ceil}
use Rattle.std.specs.Option.{option_map_or}
use Rattle.sh_key.specs.Layout.{Layout}
use Rattle.sh_shape.specs.Shape.{Numbers, IsShape, Fits}
use Rattle.sh_shape.specs.Classes.{class_of, slots}
use Rattle.tool_load.specs.declared.demand.Demand.{Demand}
use Rattle.tool_load.specs.declared.plan.Plan.{Plan}
use Rattle.tool_load.specs.declared.samples.Lengths.{Lengths}
use Rattle.tool_load.specs.declared.samples.Lengths.TheVariants.{Each, Mixed}

-- the number of pages that `values` values of `words` words fill
abbrev pub filled_pages : (words values : ℕ) → ℕ
filled_pages words values = option_map_or (λ class. div_ceil values (slots class)) (class_of words) 0

-- the number of pages that `each` values of each length from 1 to `greatest` fill
unfoldable pub filled_up_to : (greatest each : ℕ) → ℕ
filled_up_to zero each = 0
filled_up_to (suc words) each = filled_up_to words each + filled_pages (suc words) each

-- the number of pages that values fill; mixed values count as `values / 16 + 1` of each length, to cover the remainder
abbrev pub pages_filled : Lengths → ℕ → ℕ
pages_filled (Each words) values = filled_pages words values
pages_filled Mixed values = filled_up_to 16 (values / 16 + 1)

-- the number of values that one shard has room for, if each owner's thread has `shards` shards: its part of the values,
-- those that come and go, and 16 for remainders
abbrev pub values_in : Demand → (shards : ℕ) → ℕ
values_in demand shards = demand.values / shards + demand.more + 16

-- the shape if each owner's thread has `shards` shards: more pages than the values of a shard fill, a pass for each
-- shard and for each other thread, and no fewer passes than are asked for
abbrev pub shape_for : Demand → (shards : ℕ) → Numbers
shape_for demand shards = record {
  shards = demand.owners * shards;
  segments = pages_filled demand.lengths (values_in demand shards) / 8 + 1;
  passes = max demand.passes (demand.owners * shards + demand.others);
}

-- a heap of the layout may have this shape
pub record IsPossible (layout : Layout) (shape : Numbers) : Type 0 where
  pub is_shape : IsShape shape
  pub fits : Fits layout shape

-- the plan is the one with the fewest shards, from 1 to 64, with which a heap is possible
pub record IsPlanFor (layout : Layout) (demand : Demand) (plan : Plan) : Type 0 where
  pub some_shard : 1 ≤ plan.shards
  pub few_shards : plan.shards ≤ 64
  pub shape_is : plan.shape ≡ shape_for demand plan.shards
  pub possible : IsPossible layout plan.shape
  pub fewest : (n : ℕ) → 1 ≤ n → n < plan.shards → IsPossible layout (shape_for demand n) → ⊥

-- no heap is possible with any number of shards from 1 to 64
abbrev pub HasNoPlan : Layout → Demand → Type 0
HasNoPlan layout demand = (n : ℕ) → 1 ≤ n → n ≤ 64 → IsPossible layout (shape_for demand n) → ⊥
