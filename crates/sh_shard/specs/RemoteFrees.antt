-- What a collect does: the owner receives what others freed in its shard.
use Rattle.std.specs.Prelude.{◌≡◌, ℕ, ◌+◌, ◌*◌, ◌<◌, None}
use Rattle.sh_pass.specs.Owners.{SeenPage}
use Rattle.sh_shard.specs.Pages.{Paged, page_at, seen_class, WaitsSince, WorksOn, NoArming, StepsForSlots}
use Rattle.sh_shard.specs.Steps.{StepsAtMost}
use Rattle.sh_shard.specs.Works.{BellDone}
use Rattle.sh_shard.specs.Leaving.{Collecting}
use Rattle.sh_shard.specs.Filing.{ReturnsRising}
use Rattle.sh_shard.specs.Shards.{Sharded, ReturnsEach}

-- Nothing that was put and tied before is left on the page's stack. The stack was taken in this work and followed to
-- its end, or a link was not written in this work. A page without a class has nothing.
pub record PageCollected (g h : SeenPage) : Type 0 where
  pub waits : WaitsSince g h
  pub taken : 0 < seen_class g → h.cursor ≡ None → g.takes < h.takes

-- page p was collected
pub record CollectsWhole (p : ℕ) (o n : Paged) : Type 0 where
  pub works : WorksOn p o n
  pub arm : NoArming o n
  pub collected : PageCollected (page_at o p) (page_at n p)
  pub steps : StepsForSlots 3 p o n

-- each page was collected, and the bell is as it was
pub record PagesCollected (o n : Paged) : Type 0 where
  pub collects : Collecting o n
  pub bell : n.bell ≡ o.bell
  pub pages : (p : ℕ) → p < n.count → PageCollected (page_at o p) (page_at n p)
  pub steps : StepsAtMost (51 * o.count) o.owner n.owner

-- the number of steps that a collect takes at most, with n pages of the shard
abbrev pub collect_steps : ℕ → ℕ
collect_steps n = 52 * n + 3

-- The bell and each page were collected: the log is as it was, nothing was put or armed, and no page changed its class.
-- The pages of the full queue that are no longer full came back to their classes, in ascending order, and no others.
pub record CollectServes (o n : Sharded) : Type 0 where
  pub collects : Collecting o.pages n.pages
  pub bell : BellDone o.pages n.pages
  pub pages : (p : ℕ) → p < n.pages.count → PageCollected (page_at o.pages p) (page_at n.pages p)
  pub opened : n.queues.opened ≡ o.queues.opened
  pub rising : ReturnsRising o.queues n.queues
  pub returns : ReturnsEach n.pages o.queues n.queues
  pub steps : StepsAtMost (collect_steps o.pages.count) o.pages.owner n.pages.owner
