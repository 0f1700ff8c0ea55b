-- The tallies of all pages of a heap or a chunk, and how the slot of a key is counted.
use Rattle.std.specs.Prelude.{◌≡◌, ℕ, ◌+◌, ◌-◌, ◌*◌, ◌==◌, Bool, true, List, Some, None, count_by, replicate}
use Rattle.std.specs.Prelude.{slice_get, slice_set}
use Rattle.std.specs.List.{list_any}
use Rattle.sh_key.specs.Layout.{Layout, unpacked}
use Rattle.sh_key.specs.declared.parts.Parts.{Parts}
use Rattle.history_timed.specs.Calls.{inserts, removes, gets, releases}
use Rattle.history_timed.specs.declared.call.Call.{Call}
use Rattle.sh_shape.specs.Places.{all_pages, pages_of}
use Rattle.sh_shape.specs.Shape.{Numbers}
use Rattle.tool_judge.specs.declared.tally.PageTally.{PageTally}
use Rattle.tool_judge.specs.declared.tally.Tally.{Tally}
use Rattle.tool_judge.specs.Pages.{with_slot}

-- the place of a page among those of all shards
abbrev pub page_place : Tally → (shard page : ℕ) → ℕ
page_place tally shard page = shard * tally.pages_of_shard + page

-- what the calls say of a key: whether it was inserted and removed, and how many holds on it are left
abbrev pub is_inserted : ℕ → List Call → Bool
is_inserted key calls = list_any (λ (c : Call). inserts key c.said) calls

abbrev pub is_removed : ℕ → List Call → Bool
is_removed key calls = list_any (λ (c : Call). removes key c.said) calls

abbrev pub holds_on : ℕ → List Call → ℕ
holds_on key calls =
    count_by (λ (c : Call). gets key c.said) calls - count_by (λ (c : Call). releases key c.said) calls

-- the slot that the key within its chunk names is counted with those of its page, by the calls on the key
pub record CountsSlot (layout : Layout) (old new : Tally) (key within : ℕ) (calls : List Call) : Type 0 where
  pub parts : Parts
  pub is_key : unpacked layout within ≡ Some parts
  pub page : PageTally
  pub stands : slice_get old.pages.items (page_place old parts.shard parts.page) ≡ Some page
  pub pages : new.pages.items ≡ slice_set old.pages.items (page_place old parts.shard parts.page)
      (with_slot (is_removed key calls) (holds_on key calls) (parts.generation == layout.gen_max) page)
  pub pages_of_shard : new.pages_of_shard ≡ old.pages_of_shard

-- the key was inserted, but within its chunk it is no key of the layout, or names no page
pub record NamesNoPage (layout : Layout) (tally : Tally) (key within : ℕ) (calls : List Call) : Type 0 where
  pub inserted : is_inserted key calls ≡ true
  pub none : (parts : Parts) → unpacked layout within ≡ Some parts
      → slice_get tally.pages.items (page_place tally parts.shard parts.page) ≡ None

-- the tallies of a heap of this shape in which nothing was inserted
pub record CountsNothing (shape : Numbers) (tally : Tally) : Type 0 where
  pub pages : tally.pages.items ≡ replicate (all_pages shape) (record { live = 0; marked = 0; retired = 0 })
  pub pages_of_shard : tally.pages_of_shard ≡ pages_of shape
