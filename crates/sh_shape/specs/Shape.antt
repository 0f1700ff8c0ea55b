-- The shape of a heap, and the layouts that it fits.
use Rattle.std.specs.Prelude.{ℕ, ◌*◌, ◌^◌, ◌≤◌}
use Rattle.sh_key.specs.Layout.{Layout}

-- how many shards a heap has, how many segments a shard has, and how many passes there are
pub record Numbers : Type 0 where
  pub shards : ℕ
  pub segments : ℕ
  pub passes : ℕ

-- how many pages a segment has
abbrev pub segment_pages : ℕ
segment_pages = 8

-- the numbers are within the limits of any heap
pub record IsShape (n : Numbers) : Type 0 where
  pub some_shard : 1 ≤ n.shards
  pub some_segment : 1 ≤ n.segments
  pub few_segments : n.shards * n.segments ≤ 2 ^ 21
  pub some_pass : 1 ≤ n.passes
  pub few_passes : n.passes ≤ 64

-- the numbers are within the limits of a small heap, which are those of scripts
pub record IsSmallShape (n : Numbers) : Type 0 where
  pub is_shape : IsShape n
  pub few_segments : n.shards * n.segments ≤ 256

-- each shard and each page of a shard has a number in the layout
pub record Fits (layout : Layout) (n : Numbers) : Type 0 where
  pub shards_fit : n.shards ≤ 2 ^ layout.shard_bits
  pub pages_fit : segment_pages * n.segments ≤ 2 ^ layout.page_bits
