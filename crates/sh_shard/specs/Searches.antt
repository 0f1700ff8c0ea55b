-- What a search of an owner's pages does, part by part.
use Rattle.std.specs.Prelude.{◌≡◌, ℕ, ◌+◌, ◌-◌, ◌*◌, ◌<◌, ◌≤◌, ◌⊎◌, Bool, true, false, List, ◌++◌, length, Some, None}
use Rattle.std.specs.Prelude.{MatchOption}
use Rattle.std.specs.List.{last_or}
use Rattle.sh_queue.specs.Numbers.{has_number}
use Rattle.sh_lists.specs.Numbers.{Distinct}
use Rattle.sh_queue.specs.Queues.{class_queue, at_back}
use Rattle.sh_pass.specs.Owners.{Aside, NonePut}
use Rattle.sh_shard.specs.Steps.{StepsAtMost}
use Rattle.sh_shard.specs.Pages.{Paged, SameLists, page_at, PageDone, BellReads, StepsForRings}
use Rattle.sh_shard.specs.Works.{WorksThroughout, BellDone, KeepsOthers, ReadFromBell}
use Rattle.sh_shard.specs.Turning.{set_aside, turned_past, come_back, any_of_class}
use Rattle.sh_shard.specs.Shards.{Sharded, SearchedInVain, RingsReadInTurn, LooksInVain}

-- work on pages of class c alone: the bell is as it was
pub record WorkedSince (c : ℕ) (o n : Paged) : Type 0 where
  pub through : WorksThroughout o n
  pub bell : n.bell ≡ o.bell
  pub kept : KeepsOthers c o n
  pub lists : SameLists o n

-- a page was tried in vain, and went to the back or to the full queue
pub record SetsAside (c p : ℕ) (o n : Sharded) : Type 0 where
  pub pages : n.pages ≡ o.pages
  pub queues : n.queues ≡ set_aside c p o.pages o.queues

-- every page in the queue of class c was there before
abbrev pub Stood : ℕ → Sharded → Sharded → Type 0
Stood c o n = (p : ℕ) → has_number p (class_queue n.queues c) ≡ true → has_number p (class_queue o.queues c) ≡ true

-- each page in the queue of class c was tried, and nothing is left in it
pub record Searched (c : ℕ) (o n : Sharded) : Type 0 where
  pub since : WorkedSince c o.pages n.pages
  pub opened : n.queues.opened ≡ o.queues.opened
  pub stood : Stood c o n
  pub vain : SearchedInVain c o n
  pub done : (p : ℕ) → has_number p (class_queue n.queues c) ≡ true → PageDone o.pages n.pages p
  pub steps : StepsAtMost (4 * o.pages.count) o.pages.owner n.pages.owner

-- After this number of turns, the pages of `tried` were tried in vain, in this order. `rest` is yet to be tried, and
-- ends in the page that was last when the search began. The pages that were tried and wait are behind it.
pub record Searching (c turn last : ℕ) (o n : Sharded) : Type 0 where
  pub since : WorkedSince c o.pages n.pages
  pub opened : n.queues.opened ≡ o.queues.opened
  pub stood : Stood c o n
  pub apart : Distinct (class_queue o.queues c)
  pub tried : List ℕ
  pub rest : List ℕ
  pub whole : class_queue o.queues c ≡ tried ++ rest
  pub vain : (p : ℕ) → has_number p tried ≡ true → PageDone o.pages n.pages p
  pub past : n.queues ≡ turned_past c n.pages tried o.queues
  pub waited : List ℕ
  pub queue : class_queue n.queues c ≡ rest ++ waited
  pub ends : last_or None rest ≡ Some last
  pub few : turn + length rest ≤ n.queues.opened
  pub done : (p : ℕ) → has_number p waited ≡ true → PageDone o.pages n.pages p
  pub steps : StepsAtMost (4 * turn) o.pages.owner n.pages.owner

-- every page in the queue of class c was there before, or was read from the bell
abbrev pub StoodOrRead : ℕ → Sharded → Sharded → Type 0
StoodOrRead c o n = (p : ℕ) → has_number p (class_queue n.queues c) ≡ true
    → (has_number p (class_queue o.queues c) ≡ true) ⊎ ReadFromBell p o.pages n.pages

-- the bell was followed, taken and followed; if `read` is false, no page of class c was read
pub record RingsOut (c : ℕ) (read : Bool) (o n : Sharded) : Type 0 where
  pub through : WorksThroughout o.pages n.pages
  pub opened : n.queues.opened ≡ o.queues.opened
  pub rung : List ℕ
  pub rings : RingsReadInTurn rung o n
  pub heard : read ≡ any_of_class c n.pages rung
  pub gained : StoodOrRead c o n
  pub lists : SameLists o.pages n.pages
  pub bell : BellDone o.pages n.pages
  pub pages : read ≡ false → (q : ℕ) → (page_at o.pages q).class ≡ Some (c + 1) → page_at n.pages q ≡ page_at o.pages q
  pub queue : read ≡ false → (q : ℕ) → has_number q (class_queue n.queues c) ≡ true
      → has_number q (class_queue o.queues c) ≡ true
  pub steps : StepsForRings 3 o.pages n.pages

-- each page in the queue of class c is done, and so is the bell
pub record Tried (c : ℕ) (o n : Sharded) : Type 0 where
  pub through : WorksThroughout o.pages n.pages
  pub kept : KeepsOthers c o.pages n.pages
  pub opened : n.queues.opened ≡ o.queues.opened
  pub looks : LooksInVain c o n
  pub bell : BellDone o.pages n.pages
  pub done : (p : ℕ) → has_number p (class_queue n.queues c) ≡ true → PageDone o.pages n.pages p
  pub steps : StepsAtMost (9 * o.pages.count + 3) o.pages.owner n.pages.owner

-- a page of this class word was read from the bell; if it was in the full queue, it went to the back of its class
pub record ReadsRing (word : ℕ) (o n : Sharded) : Type 0 where
  pub page : ℕ
  pub reads : BellReads page o.pages n.pages
  pub class : (page_at n.pages page).class ≡ Some word
  pub queues : (n.queues ≡ o.queues) ⊎ (n.queues ≡ at_back (word - 1) page o.queues) × (0 < word) × (word ≤ 8)
  pub back : n.queues ≡ come_back page n.pages o.queues

-- pages were read from the bell; none of them is of class c, unless `read`
pub record ReadsRings (c : ℕ) (read : Bool) (o n : Sharded) : Type 0 where
  pub opened : n.queues.opened ≡ o.queues.opened
  pub rung : List ℕ
  pub rings : RingsReadInTurn rung o n
  pub heard : read ≡ any_of_class c n.pages rung
  pub gained : StoodOrRead c o n
  pub lists : SameLists o.pages n.pages
  pub aside : Aside o.pages.owner n.pages.owner
  pub put : NonePut o.pages.owner n.pages.owner
  pub log : n.pages.owner.view.own.log ≡ o.pages.owner.view.own.log
  pub shard : n.pages.shard ≡ o.pages.shard
  pub count : n.pages.count ≡ o.pages.count
  pub classes : (q : ℕ) → (page_at n.pages q).class ≡ (page_at o.pages q).class
  pub page_takes : (q : ℕ) → (page_at n.pages q).takes ≡ (page_at o.pages q).takes
  pub page_met : (q : ℕ) → (page_at n.pages q).met ≡ (page_at o.pages q).met
  pub takes : n.pages.bell.takes ≡ o.pages.bell.takes
  pub met : o.pages.bell.met ≤ n.pages.bell.met
  pub pages : read ≡ false → (q : ℕ) → (page_at o.pages q).class ≡ Some (c + 1) → page_at n.pages q ≡ page_at o.pages q
  pub queue : read ≡ false → (q : ℕ) → has_number q (class_queue n.queues c) ≡ true
      → has_number q (class_queue o.queues c) ≡ true

-- the bell's cursor is at its end, or met a link that was not written
abbrev pub BellWaits : Sharded → Sharded → Type 0
BellWaits o n = MatchOption n.pages.bell.cursor (Unit {0}) (λ _. o.pages.bell.met < n.pages.bell.met)
