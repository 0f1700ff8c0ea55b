-- How large a heap is, as a sum over its chunks.
use Rattle.std.specs.Prelude.{◌≡◌, ℕ, zero, suc, ◌+◌, ◌*◌, ◌≤◌, ◌^◌, ◌⊎◌, Option, None, Some}
use Rattle.sh_shape.specs.Classes.{class_of, slots}
use Rattle.sh_shape.specs.Places.{all_pages, words_of}
use Rattle.sh_shape.specs.Shape.{Numbers}
use Rattle.sh_shard.specs.Pages.{sum_below}
use Rattle.sh_grown.specs.Growing.{shape_in}
use Rattle.sh_grown.specs.Wholes.{SeenChunk, IsChunkOf}
use Rattle.sh_grown.specs.declared.growing.Growing.{Growing}

-- how many chunks a heap has, and how many pages and words these have together
pub record Sizes : Type 0 where
  pub chunks : ℕ
  pub pages : ℕ
  pub words : ℕ

-- a heap has at most 256 chunks, each of at most 2^24 pages and fewer than 2^32 words
pub record AreFew (s : Sizes) : Type 0 where
  pub chunks : s.chunks ≤ 256
  pub pages : s.pages ≤ 2 ^ 24 * s.chunks
  pub words : s.words ≤ 2 ^ 32 * s.chunks

-- the size of no chunk
abbrev pub no_size : Sizes
no_size = record { chunks = 0; pages = 0; words = 0 }

-- with a chunk of this shape more
abbrev pub size_with : Numbers → Sizes → Sizes
size_with shape s = record {
  chunks = s.chunks + 1;
  pages = s.pages + all_pages shape;
  words = s.words + words_of shape;
}

-- the size of a heap of this shape
abbrev pub size_of : Numbers → Sizes
size_of shape = size_with shape no_size

-- how many slots a page has for values of this many words, by the class of that length
abbrev pub slots_by : Option ℕ → ℕ
slots_by None = 0
slots_by (Some class) = slots class

-- how many values of this many words the pages have room for, if all are for that length
abbrev pub room_in : Sizes → (words : ℕ) → ℕ
room_in s words = s.pages * slots_by (class_of words)

-- ---- of a growing heap

-- the chunk of this number was found open, and its size is added
pub record AddsSize (growing : Growing) (number : ℕ) (s t : Sizes) : Type 0 where
  pub chunk : SeenChunk
  pub own : chunk.number ≡ number
  pub of : IsChunkOf growing chunk
  pub sum : t ≡ size_with chunk.heap.shape s

-- the sum over the chunks below k that were found open, each of which is counted once
abbrev pub SizesBelow : Growing → ℕ → Sizes → Type 0
SizesBelow growing zero s = s ≡ no_size
SizesBelow growing (suc k) s = (before : Sizes) × SizesBelow growing k before
    × ((s ≡ before) ⊎ AddsSize growing k before s)

-- how many words the chunk of this number has
abbrev pub words_in : Growing → (number : ℕ) → ℕ
words_in growing number = words_of (shape_in growing number)

-- if the first chunk has two segments, each later one has at most half the words of all those before it, and one word
abbrev pub HalfAsLarge : Type 0
HalfAsLarge = (growing : Growing) (number : ℕ) → 2 ≤ growing.first.shards * growing.first.segments
    → 2 * words_in growing (suc number) ≤ sum_below (words_in growing) (suc number) + 2

-- So with it all are at most one and a half times as large as those before it, of which each shard was refused.
abbrev pub FewInAll : Type 0
FewInAll = (growing : Growing) (number : ℕ) → 2 ≤ growing.first.shards * growing.first.segments
    → 2 * sum_below (words_in growing) (suc (suc number)) ≤ 3 * sum_below (words_in growing) (suc number) + 2
