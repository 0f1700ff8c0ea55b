-- How an owner leaves its shard: it empties the bell and the stacks, puts back what it has, and gives the shard up.
use Rattle.std.specs.Prelude.{◌≡◌, ◌≢◌, ℕ, ◌+◌, ◌*◌, ◌<◌, ◌⊎◌, true, false, None, MatchOption}
use Rattle.std.specs.Prelude.{Result, Ok, Err}
use Rattle.sh_pass.specs.Passes.{Caller}
use Rattle.sh_pass.specs.Owners.{SeenPage, Aside, HasNothing}
use Rattle.sh_shard.specs.Pages.{Paged, page_at, own_slots, HasCursor, NothingMine, WaitsSince, WorksOn, NoArming}
use Rattle.sh_shard.specs.Pages.{ShardLeft, TakesSteps, StepsForSlots, StepsForRings}
use Rattle.sh_shard.specs.Steps.{StepsAtMost}
use Rattle.sh_shard.specs.Works.{WorksThroughout}

-- work on pages and on the bell that arms nothing
pub record Collecting (o n : Paged) : Type 0 where
  pub through : WorksThroughout o n
  pub arm : NoArming o n

-- if there is a cursor, a link was not written; if the page is still armed, what was put on it was taken; both in this
-- work
pub record PageEmptied (g h : SeenPage) : Type 0 where
  pub waits : WaitsSince g h
  pub taken : h.cursor ≡ None → h.armed ≡ true → g.takes < h.takes

-- page p was emptied
pub record EmptiesPage (p : ℕ) (o n : Paged) : Type 0 where
  pub works : WorksOn p o n
  pub arm : NoArming o n
  pub emptied : PageEmptied (page_at o p) (page_at n p)
  pub steps : StepsForSlots 3 p o n

-- the bell was followed to its end, or to a link that was not written
pub record BellFollowed (o n : Paged) : Type 0 where
  pub collects : Collecting o n
  pub takes : n.bell.takes ≡ o.bell.takes
  pub waits : MatchOption n.bell.cursor (Unit {0}) (λ _. o.bell.met < n.bell.met)
  pub steps : StepsForRings 1 o n

-- each page was emptied, and the bell is as it was
pub record PagesEmptied (o n : Paged) : Type 0 where
  pub collects : Collecting o n
  pub bell : n.bell ≡ o.bell
  pub pages : (p : ℕ) → p < n.count → PageEmptied (page_at o p) (page_at n p)
  pub steps : StepsAtMost (51 * o.count) o.owner n.owner

-- the page has no cursor and is not armed
pub record AtRest (g : SeenPage) : Type 0 where
  pub cursor : g.cursor ≡ None
  pub armed : g.armed ≡ false

-- the bell has no cursor, and each page is at rest
pub record AllAtRest (v : Paged) : Type 0 where
  pub bell : v.bell.cursor ≡ None
  pub pages : (p : ℕ) → p < v.count → AtRest (page_at v p)

-- the bell has a cursor; or it has none, and a page has a cursor or is armed
abbrev pub NotAtRest : Paged → Type 0
NotAtRest v = HasCursor v.bell.cursor
    ⊎ ((v.bell.cursor ≡ None) × ((p : ℕ) × (p < v.count) × (HasCursor (page_at v p).cursor
    ⊎ (((page_at v p).cursor ≡ None) × ((page_at v p).armed ≡ true)))))

-- The bell or a page is not at rest. Either a link of a cursor was not written in this call; or the page is armed
-- although both it and the bell were taken in this call. Then the notice of its ring is yet to come.
abbrev pub RestsNot : Paged → Paged → Type 0
RestsNot o n = (HasCursor n.bell.cursor × (o.bell.met < n.bell.met))
    ⊎ ((p : ℕ) × (p < n.count) × ((HasCursor (page_at n p).cursor × ((page_at o p).met < (page_at n p).met))
    ⊎ ((n.bell.cursor ≡ None) × ((page_at n p).armed ≡ true) × ((page_at o p).takes < (page_at n p).takes)
    × (o.bell.takes < n.bell.takes))))

-- leaving waits for others: nothing was put or armed, and no page changed its class
pub record Waiting (o n : Paged) : Type 0 where
  pub collects : Collecting o n
  pub why : RestsNot o n

-- a slot of page p was put on the page's stack
pub record PutsOne (p : ℕ) (o n : Paged) : Type 0 where
  pub aside : Aside o.owner n.owner
  pub bell : n.bell ≡ o.bell
  pub log : n.owner.view.own.log ≡ o.owner.view.own.log
  pub shard : n.shard ≡ o.shard
  pub count : n.count ≡ o.count
  pub cursor : (page_at n p).cursor ≡ (page_at o p).cursor
  pub armed : (page_at n p).armed ≡ (page_at o p).armed
  pub less : own_slots (page_at n p) + 1 ≡ own_slots (page_at o p)
  pub others : (q : ℕ) → q ≢ p → page_at n q ≡ page_at o q
  pub steps : TakesSteps 2 o n

-- each slot of page p that the owner had was put on the page's stack
pub record PutsBack (p : ℕ) (o n : Paged) : Type 0 where
  pub aside : Aside o.owner n.owner
  pub bell : n.bell ≡ o.bell
  pub log : n.owner.view.own.log ≡ o.owner.view.own.log
  pub shard : n.shard ≡ o.shard
  pub count : n.count ≡ o.count
  pub cursor : (page_at n p).cursor ≡ (page_at o p).cursor
  pub armed : (page_at n p).armed ≡ (page_at o p).armed
  pub mine : NothingMine (page_at n p)
  pub others : (q : ℕ) → q ≢ p → page_at n q ≡ page_at o q
  pub steps : StepsAtMost 96 o.owner n.owner

-- the owner has nothing in any page, and all is at rest
pub record PutsAllBack (o n : Paged) : Type 0 where
  pub aside : Aside o.owner n.owner
  pub log : n.owner.view.own.log ≡ o.owner.view.own.log
  pub shard : n.shard ≡ o.shard
  pub bell : n.bell.cursor ≡ None
  pub pages : (p : ℕ) → p < n.count → HasNothing (page_at n p)
  pub steps : StepsAtMost (96 * o.count) o.owner n.owner

-- the shard is left, or leaving waits and the shard is returned
abbrev pub LeaveDoes : Paged → Result Caller Paged → Type 0
LeaveDoes v (Ok w) = ShardLeft v.owner w
LeaveDoes v (Err n) = Waiting v n
