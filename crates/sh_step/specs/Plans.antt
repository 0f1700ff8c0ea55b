-- What is fixed when a heap opens: how many shards, pages and passes there are, and how keys are packed.
use Rattle.std.specs.Prelude.{ℕ, ◌≡◌, ◌+◌, ◌-◌, ◌*◌, ◌^◌, ◌<◌, ◌≤◌, nat_lt, cond, ◌&&◌, Option, Some, None}
use Rattle.sh_key.specs.declared.parts.Parts.{Parts}
use Rattle.sh_key.specs.Layout.{Layout, packed, unpacked}
use Rattle.sh_shape.specs.Shape.{Numbers, segment_pages}
use Rattle.sh_shape.specs.Places.{slot_places}
use Rattle.sh_bell.specs.Bell.{shard_of_page, local_of}
use Rattle.sh_slots.specs.declared.hand.SlotRef.{SlotRef}
use Rattle.sh_slots.specs.declared.hand.KeyRef.{KeyRef}
use Rattle.sh_step.specs.declared.action.PageName.{PageName}
use Rattle.sh_step.specs.declared.action.SlotName.{SlotName}

-- how keys are packed, the last generation of a slot, and how many holds a key may have
pub record Keys : Type 0 where
  pub pack : KeyRef → ℕ
  pub unpack : ℕ → Option KeyRef
  pub gen_max : ℕ
  pub guard_max : ℕ

-- pages: the number of pages of one shard
pub record Plan : Type 0 where
  pub shards : ℕ
  pub pages : ℕ
  pub passes : ℕ
  pub keys : Keys

-- what the parts of a key name, given the number of shards and of pages of a shard
abbrev pub name_in : (shards pages : ℕ) → Parts → Option KeyRef
name_in shards pages p = cond (nat_lt p.shard shards && nat_lt p.page pages)
    (Some (record { page = p.shard * pages + p.page; slot = p.slot; generation = p.generation })) None

-- the parts of the key of a name, given the number of pages of a shard
abbrev pub parts_of : (pages : ℕ) → KeyRef → Parts
parts_of pages n = record {
  generation = n.generation;
  shard = shard_of_page pages n.page;
  page = local_of pages n.page;
  slot = n.slot;
}

-- the keys of a layout, which name pages by their numbers over the whole heap
unfoldable pub keys_of : Layout → (shards pages : ℕ) → Keys
keys_of layout shards pages = record {
  pack = λ n. packed layout (parts_of pages n);
  unpack = λ k. elim (unpacked layout k) [ Some p ↦ name_in shards pages p | None ↦ None ];
  gen_max = layout.gen_max;
  guard_max = layout.guard_max;
}

-- the plan of a heap of this shape and layout
abbrev pub plan_of : Layout → Numbers → Plan
plan_of layout n = record {
  shards = n.shards;
  pages = segment_pages * n.segments;
  passes = n.passes;
  keys = keys_of
      layout n.shards (segment_pages * n.segments);
}

-- how many pages there are, and the shard of a page
abbrev pub heap_pages : Plan → ℕ
heap_pages plan = plan.shards * plan.pages

unfoldable pub shard_of : Plan → ℕ → ℕ
shard_of plan q = shard_of_page plan.pages q

-- the number of a named page over the whole heap, and the slot of that name
unfoldable pub page_number : Plan → ℕ → ℕ → ℕ
page_number plan n p = n * plan.pages + p

-- the number of a page in its shard
unfoldable pub local : Plan → ℕ → ℕ
local plan q = local_of plan.pages q

-- Words name pages of a shard by their numbers there. A word that names page p of shard n as p + k, and none below k:
-- the same with the page's number over the whole heap
unfoldable pub over_heap : Plan → (n k word : ℕ) → ℕ
over_heap plan n k word = cond (nat_lt word k) word (page_number plan n (word - k) + k)

abbrev pub page_of : Plan → PageName → ℕ
page_of plan x = page_number plan x.shard x.page

abbrev pub slot_of : Plan → SlotName → SlotRef
slot_of plan x = record { page = page_number plan x.shard x.page; slot = x.slot }

-- the laws of a plan that the core needs: a key names one place and generation, and counts have room
pub record Lawful (plan : Plan) : Type 0 where
  pub names : (n : KeyRef) → 0 < n.generation → n.generation ≤ plan.keys.gen_max → n.page < heap_pages plan
      → n.slot < slot_places → plan.keys.unpack (plan.keys.pack n) ≡ Some n
  pub keys : (k : ℕ) (n : KeyRef) → plan.keys.unpack k ≡ Some n → k ≡ plan.keys.pack n
  pub begins : (k : ℕ) (n : KeyRef) → plan.keys.unpack k ≡ Some n → 0 < n.generation
  pub passes : plan.passes ≤ 64
  pub generations : 0 < plan.keys.gen_max
  pub guards : plan.keys.guard_max + 64 < 2 ^ 30
  pub last_generation : plan.keys.gen_max < 2 ^ 32
  pub few_pages : heap_pages plan ≤ 2 ^ 24
