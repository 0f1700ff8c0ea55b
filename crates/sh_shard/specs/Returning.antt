-- How pages come back from the full queue, and how the pages of an adopted shard are put into their queues.
use Rattle.std.specs.Prelude.{◌≡◌, ◌≢◌, ℕ, ◌+◌, ◌*◌, ◌<◌, ◌≤◌, ◌⊎◌, true, List, [], ◌++◌, length, Option, Some, None}
use Rattle.sh_queue.specs.Numbers.{has_number, RisesFrom}
use Rattle.sh_queue.specs.Queues.{PageQueues, FilingQueues, EachOnce, class_queue}
use Rattle.sh_shard.specs.Pages.{Paged, page_at, seen_class}
use Rattle.sh_shard.specs.Filing.{FilesRising}
use Rattle.sh_shard.specs.Shards.{FullPage, ReturnsPage}

-- each page is in the queue where it belongs, except that a named page in the full queue may have a slot or a cursor,
-- or not be armed
pub record SortedBut (named : ℕ → Type 0) (v : Paged) (q : PageQueues) : Type 0 where
  pub once : EachOnce q
  pub all : q.opened + 8 * q.unopened ≡ v.count
  pub later : (p : ℕ) → q.opened ≤ p → p < v.count → (page_at v p).class ≡ Some 0
  pub classes : (c p : ℕ) → has_number p (class_queue q c) ≡ true → (page_at v p).class ≡ Some (c + 1)
  pub full : (p : ℕ) → has_number p q.full ≡ true → ¬ named p → FullPage (page_at v p)
  pub word : (p : ℕ) → has_number p q.full ≡ true → (0 < seen_class (page_at v p)) × (seen_class (page_at v p) ≤ 8)
  pub blank : (p : ℕ) → has_number p q.blank ≡ true → (page_at v p).class ≡ Some 0

-- the page that gained a slot, if there is one, comes back if it was in the full queue and is not a full page
abbrev pub ReturnsGained : Option ℕ → Paged → PageQueues → PageQueues → Type 0
ReturnsGained None v q q' = q' ≡ q
ReturnsGained (Some p) v q q' = ReturnsPage p v q q'

-- the pages that are filed so far are blank or in the queues of their classes, in ascending order; none is full
pub record FiledPages (v : Paged) (q : PageQueues) : Type 0 where
  pub many : length q.classes ≡ 8
  pub classes : (c p : ℕ) → has_number p (class_queue q c) ≡ true → (page_at v p).class ≡ Some (c + 1)
  pub full : q.full ≡ []
  pub blank : (p : ℕ) → has_number p q.blank ≡ true → (page_at v p).class ≡ Some 0
  pub rising : FilesRising q
  pub below : (c p : ℕ) → has_number p (class_queue q c) ≡ true → p < q.opened

-- the first k pages are filed, and the number of pages to file is as before
pub record FilesFirst (k : ℕ) (v : Paged) (f g : FilingQueues) : Type 0 where
  pub filed : FiledPages v g.queues
  pub opened : g.queues.opened ≡ k
  pub unopened : g.queues.unopened ≡ f.queues.unopened
  pub pages : g.pages ≡ f.pages

-- the number is 0, or one more than that of a page with a class
abbrev pub IsClassedEnd : ℕ → Paged → Type 0
IsClassedEnd end v = (end ≡ 0) ⊎ ((p : ℕ) × (end ≡ p + 1) × ((page_at v p).class ≢ Some 0))

-- the pages below k that came back are at the back of each class in ascending order
pub record ReturnedBelow (k : ℕ) (q r : PageQueues) : Type 0 where
  pub opened : r.opened ≡ q.opened
  pub classes : (c : ℕ) → (gained : List ℕ) × (class_queue r c ≡ class_queue q c ++ gained) × RisesFrom 0 gained
      × ((p : ℕ) → has_number p gained ≡ true → p < k)
