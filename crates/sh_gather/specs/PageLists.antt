-- The accounts of the pages of a heap of which all passes met.
use Rattle.std.specs.Prelude.{◌≡◌, ◌<◌, ℕ, List, length, Some, slice_get}
use Rattle.sh_key.specs.Layout.{Layout}
use Rattle.sh_shape.specs.Places.{pages_of, page_number}
use Rattle.sh_pass.specs.Passes.{Caller}
use Rattle.sh_gather.specs.Gathering.{AreWholeAccounts, NotedMore}
use Rattle.sh_gather.specs.declared.accounts_by_page.PageAccounts.{PageAccounts}

-- page number i of the heap, and its accounts by what the caller knows
pub record IsPage (layout : Layout) (c : Caller) (i : ℕ) (p : PageAccounts) : Type 0 where
  pub page : p.page < pages_of c.heap.shape
  pub number : page_number c.heap.shape p.shard p.page ≡ i
  pub are : AreWholeAccounts layout c.view i p.accounts

-- the same at some moment between the two callers, with only words noted in between
pub record ToldBetween (layout : Layout) (old new : Caller) (i : ℕ) (p : PageAccounts) : Type 0 where
  pub moment : Caller
  pub heap : moment.heap ≡ old.heap
  pub since : NotedMore old.view moment.view
  pub until : NotedMore moment.view new.view
  pub is : IsPage layout moment i p

-- the first n pages of the heap, in the order of their numbers
pub record AreFirst (layout : Layout) (old new : Caller) (n : ℕ) (pages : List PageAccounts) : Type 0 where
  pub many : length pages ≡ n
  pub each : (i : ℕ) (p : PageAccounts) → slice_get pages i ≡ Some p → ToldBetween layout old new i p
