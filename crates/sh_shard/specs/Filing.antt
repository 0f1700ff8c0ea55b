-- The number of pages that are opened, and the order of filed pages in their queues.
use Rattle.std.specs.Prelude.{◌≡◌, ◌≢◌, ℕ, ◌+◌, ◌<◌, ◌≤◌, ◌⊎◌, List, ◌++◌, Some}
use Rattle.sh_queue.specs.Numbers.{RisesFrom}
use Rattle.sh_queue.specs.Queues.{PageQueues, class_queue, at_front, one_more_segment}
use Rattle.sh_shard.specs.Pages.{Paged, page_at}

-- the number of opened pages is as before and p is one of them; or one segment more is opened and p is its first page
abbrev pub OpensFor : ℕ → PageQueues → PageQueues → Type 0
OpensFor p q r = ((p < q.opened) × (r.opened ≡ q.opened)) ⊎ ((p ≡ q.opened) × (r.opened ≡ q.opened + 8))

-- page p, taken from where it was, is in front of class c, and no other page moved; if it was not opened, its segment
-- was opened first
abbrev pub ComesInFront : (c p : ℕ) → PageQueues → PageQueues → Type 0
ComesInFront c p q r = ((p < q.opened) × (r ≡ at_front c p q))
    ⊎ ((p ≡ q.opened) × (r ≡ at_front c p (one_more_segment q)))

-- segments are opened up to the last page with a class, and no further
pub record OpensClassed (v : Paged) (q : PageQueues) : Type 0 where
  pub later : (p : ℕ) → q.opened ≤ p → p < v.count → (page_at v p).class ≡ Some 0
  pub last : (q.opened ≡ 0) ⊎ ((p : ℕ) × (p < q.opened) × (q.opened ≤ p + 8) × ((page_at v p).class ≢ Some 0))

-- the pages of each class are in ascending order
abbrev pub FilesRising : PageQueues → Type 0
FilesRising q = (c : ℕ) → RisesFrom 0 (class_queue q c)

-- the pages that came back to each class are at its back in ascending order, and nothing else moved there
pub record ReturnsRising (q r : PageQueues) : Type 0 where
  pub opened : r.opened ≡ q.opened
  pub classes : (c : ℕ) → (gained : List ℕ) × (class_queue r c ≡ class_queue q c ++ gained) × RisesFrom 0 gained
