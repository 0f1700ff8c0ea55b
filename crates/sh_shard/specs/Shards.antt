-- What a contract sees of an owner's shard, and what its calls do.
use Rattle.std.specs.Prelude.{◌≡◌, ◌≢◌, ℕ, zero, suc, ◌+◌, ◌-◌, ◌*◌, ◌<◌, ◌≤◌, ◌⊎◌, true, false, List, [], ◌∷◌}
use Rattle.std.specs.Prelude.{◌++◌, length, None}
use Rattle.std.specs.Prelude.{Some, Option, Result, Ok, Err, slice_get, MatchBool}
use Rattle.sh_history.specs.declared.entry.Entry.TheVariants as entry
use Rattle.sh_history.specs.declared.log.LogEntry.TheVariants.{Known}
use Rattle.sh_key.specs.Layout.{Layout}
use Rattle.sh_queue.specs.Numbers.{has_number}
use Rattle.sh_queue.specs.Queues.{PageQueues, EachOnce, class_queue, at_back}
use Rattle.sh_value.specs.declared.refusal.Refusal.{Refusal}
use Rattle.sh_value.specs.declared.refusal.Refusal.TheVariants as refusal
use Rattle.sh_shape.specs.Classes.{class_of}
use Rattle.sh_pass.specs.Passes.{Caller}
use Rattle.sh_shard.specs.Pages.{pages_heeded}
use Rattle.sh_pass.specs.Growing.{SameTale}
use Rattle.sh_pass.specs.Remaining.{Remains}
use Rattle.sh_pass.specs.Owners.{SeenPage, Aside, NonePut, IsKeyIn, IsKeyOn, heap_page}
use Rattle.sh_shard.specs.Pages.{Paged, shard_page, page_at, seen_class, NothingMine, WhollyMine, GivesClass, PageDone}
use Rattle.sh_shard.specs.Slots.{OwnFirst, AllFree}
use Rattle.sh_shard.specs.Pages.{SameLists, UsesFirst, lists_at}
use Rattle.sh_shard.specs.Pages.{PageInserts, TakesSteps, GainsSlot, HoldsPages, AdoptsShard, AdoptRefused, ShardLeft}
use Rattle.sh_shard.specs.Turning.{turned_past, come_back_each, any_of_class, gained_back}
use Rattle.sh_shard.specs.Works.{WorksThroughout, BellDone, ClassDone, KeepsOthers, ReadFromBell, ReadInTurn}
use Rattle.sh_shard.specs.Leaving.{Waiting}
use Rattle.sh_shard.specs.Filing.{OpensFor, ComesInFront, OpensClassed, FilesRising, ReturnsRising}

pub record Sharded : Type 0 where
  pub pages : Paged
  pub queues : PageQueues

-- ---- what is true of every shard between calls

-- a page of the full queue: it has a class, is armed, has no cursor, and none of its slots is its owner's
pub record FullPage (g : SeenPage) : Type 0 where
  pub classed : 0 < seen_class g
  pub few : seen_class g ≤ 8
  pub armed : g.armed ≡ true
  pub cursor : g.cursor ≡ None
  pub mine : NothingMine g

-- each page is where it belongs, once: in the queue of its class, in the full queue, or blank
pub record SortedPages (v : Paged) (q : PageQueues) : Type 0 where
  pub once : EachOnce q
  pub all : q.opened + 8 * q.unopened ≡ v.count
  pub later : (p : ℕ) → q.opened ≤ p → p < v.count → (page_at v p).class ≡ Some 0
  pub classes : (c p : ℕ) → has_number p (class_queue q c) ≡ true → (page_at v p).class ≡ Some (c + 1)
  pub full : (p : ℕ) → has_number p q.full ≡ true → FullPage (page_at v p)
  pub blank : (p : ℕ) → has_number p q.blank ≡ true → (page_at v p).class ≡ Some 0

-- page p goes to the back of its class exactly if it was in the full queue and is not a full page
abbrev pub ReturnsPage : ℕ → Paged → PageQueues → PageQueues → Type 0
ReturnsPage p v q r = ((r ≡ q) × ((has_number p q.full ≡ false) ⊎ FullPage (page_at v p)))
    ⊎ ((has_number p q.full ≡ true) × (r ≡ at_back (seen_class (page_at v p) - 1) p q) × (¬ FullPage (page_at v p)))

-- so do the pages below k, in ascending order
abbrev pub ReturnsBelow : ℕ → Paged → PageQueues → PageQueues → Type 0
ReturnsBelow zero v q r = r ≡ q
ReturnsBelow (suc k) v q r = (s : PageQueues) × ReturnsBelow k v q s × ReturnsPage k v s r

-- and so do all opened pages
pub record ReturnsEach (v : Paged) (q r : PageQueues) : Type 0 where
  pub below : ℕ
  pub all : q.opened ≤ below
  pub each : ReturnsBelow below v q r

-- nothing is begun in the shard's pages, and all that the owner knows is true
abbrev pub HoldsShard : Layout → Sharded → Type 0
HoldsShard layout o = HoldsPages layout o.pages

-- after a call the same pass holds the same shard
pub record StaysOwner (layout : Layout) (o n : Sharded) : Type 0 where
  pub holds : HoldsShard layout n
  pub shard : n.pages.shard ≡ o.pages.shard
  pub same : SameTale o.pages.owner.view n.pages.owner.view
  pub remains : Remains layout o.pages.owner n.pages.owner

-- the shard, once its owner has heeded the receipt
abbrev pub shard_heeded : Sharded → Caller → Sharded
shard_heeded o r = record { pages = pages_heeded o.pages r; queues = o.queues }

-- ---- what an insert does

-- nothing of class c is left in any page of the class, the bell is done, and no slot of another class came
pub record NoneLeft (c : ℕ) (o n : Paged) : Type 0 where
  pub through : WorksThroughout o n
  pub kept : KeepsOthers c o n
  pub bell : BellDone o n
  pub done : (p : ℕ) → p < n.count → (page_at n p).class ≡ Some (c + 1) → PageDone o n p

-- a page of another class than c, all of whose slots are its owner's
pub record IsSpare (c : ℕ) (g : SeenPage) : Type 0 where
  pub whole : WhollyMine g
  pub other : g.class ≢ Some (c + 1)

abbrev pub IsBlank : SeenPage → Type 0
IsBlank g = g.class ≡ Some 0

abbrev pub NoneSpare : ℕ → Paged → Type 0
NoneSpare c v = (p : ℕ) → p < v.count → ¬ IsSpare c (page_at v p)

-- no page of an opened segment is blank
abbrev pub NoneOpenedBlank : Sharded → Type 0
NoneOpenedBlank o = (p : ℕ) → p < o.queues.opened → ¬ IsBlank (page_at o.pages p)

-- no page can be given class c: none is blank, every segment is opened, and none is spare
pub record NoPageFor (c : ℕ) (o : Sharded) : Type 0 where
  pub blank : (p : ℕ) → p < o.pages.count → ¬ IsBlank (page_at o.pages p)
  pub spare : NoneSpare c o.pages
  pub unopened : o.queues.unopened ≡ 0

-- only one more segment has a page for class c: no opened page is blank, and none is spare
pub record NeedsSegment (c : ℕ) (o : Sharded) : Type 0 where
  pub blank : NoneOpenedBlank o
  pub spare : NoneSpare c o.pages
  pub unopened : o.queues.unopened ≢ 0

-- page p passes the test, and no lower page does
pub record IsLowest (such : SeenPage → Type 0) (p : ℕ) (v : Paged) : Type 0 where
  pub here : such (page_at v p)
  pub lower : (q : ℕ) → q < p → ¬ such (page_at v q)

-- Page p is the next one for class c: the lowest blank page, if that is opened. If no opened page is blank, it is the
-- lowest spare page. If none is spare either, it is the first page of the next segment.
abbrev pub IsNextFor : ℕ → ℕ → Sharded → Type 0
IsNextFor c p o = ((p < o.queues.opened) × IsLowest IsBlank p o.pages)
    ⊎ ((NoneOpenedBlank o × IsLowest (IsSpare c) p o.pages)
    ⊎ (NoneSpare c o.pages × (p ≡ o.queues.opened) × IsLowest IsBlank p o.pages))

-- page p, the next one for class c, was given the class, and is in front of the pages of the class
pub record PreparesPage (c p : ℕ) (o n : Sharded) : Type 0 where
  pub inside : p < o.pages.count
  pub next : IsNextFor c p o
  pub gives : GivesClass p c o.pages n.pages
  pub front : class_queue n.queues c ≡ p ∷ class_queue o.queues c
  pub opened : OpensFor p o.queues n.queues
  pub queues : ComesInFront c p o.queues n.queues

-- a page is prepared for class c; or no page can be; or the growth of the segment that has the next page was refused
abbrev pub PrepareServes : ℕ → Sharded → Result ℕ Refusal → Sharded → Type 0
PrepareServes c o (Ok p) n = PreparesPage c p o n
PrepareServes c o (Err refusal.Full) n = (n ≡ o) × NoPageFor c o
PrepareServes c o (Err refusal.Memory) n = (n ≡ o) × NeedsSegment c o
PrepareServes c o (Err _) n = ⊥

-- the value was added to the log under this key; nothing was put
pub record Added (value : List ℕ) (key : ℕ) (o n : Paged) : Type 0 where
  pub aside : Aside o.owner n.owner
  pub put : NonePut o.owner n.owner
  pub log : n.owner.view.own.log ≡ o.owner.view.own.log ++ Known (entry.Insert o.owner.view.pass key value) ∷ []
  pub shard : n.shard ≡ o.shard
  pub count : n.count ≡ o.count

-- nothing was left in any page in the queue of class c; they were tried in their order, and the queues are turned past
-- them
pub record SearchedInVain (c : ℕ) (o n : Sharded) : Type 0 where
  pub through : WorksThroughout o.pages n.pages
  pub bell : n.pages.bell ≡ o.pages.bell
  pub vain : (p : ℕ) → has_number p (class_queue o.queues c) ≡ true → PageDone o.pages n.pages p
  pub queues : n.queues ≡ turned_past c n.pages (class_queue o.queues c) o.queues

-- page p was found in the queue of class c; nothing was left in the pages ahead of it, which were tried in their order,
-- and the queues are turned past them
pub record FoundInQueue (c p : ℕ) (o n : Sharded) : Type 0 where
  pub ahead : List ℕ
  pub behind : List ℕ
  pub queue : class_queue o.queues c ≡ ahead ++ p ∷ behind
  pub vain : (q : ℕ) → has_number q ahead ≡ true → PageDone o.pages n.pages q
  pub queues : n.queues ≡ turned_past c n.pages ahead o.queues

-- these pages were read from the bell, in this order, and each that was in the full queue came back to its class
pub record RingsReadInTurn (rung : List ℕ) (o n : Sharded) : Type 0 where
  pub reads : ReadInTurn rung o.pages n.pages
  pub queues : n.queues ≡ come_back_each n.pages rung o.queues

-- the queue of class c was searched in vain; then the bell was read; if a page of the class was among those read, the
-- queue was searched in vain once more
pub record LooksInVain (c : ℕ) (o n : Sharded) : Type 0 where
  pub searched : Sharded
  pub first : SearchedInVain c o searched
  pub rung : List ℕ
  pub heard : Sharded
  pub rings : RingsReadInTurn rung searched heard
  pub again : MatchBool (any_of_class c heard.pages rung) (SearchedInVain c heard n) (n ≡ heard)
  pub lists : SameLists o.pages n.pages

-- the queue of class c was searched in vain; then the bell was read, and a page of the class was among those read; then
-- page p was found in the queue
pub record FoundAfterBell (c p : ℕ) (o n : Sharded) : Type 0 where
  pub searched : Sharded
  pub first : SearchedInVain c o searched
  pub rung : List ℕ
  pub heard : Sharded
  pub rings : RingsReadInTurn rung searched heard
  pub some : any_of_class c heard.pages rung ≡ true
  pub finds : FoundInQueue c p heard n

-- the queues and the bell were looked at in vain, and then page p came in front of class c
pub record FoundNext (c p : ℕ) (o n : Sharded) : Type 0 where
  pub looked : Sharded
  pub looks : LooksInVain c o looked
  pub queues : ComesInFront c p looked.queues n.queues

-- The shard has no room for class c: each page of the class is done, and no page is blank. No page has all its slots
-- with its owner, and every segment is opened.
pub record NoRoom (c : ℕ) (o n : Sharded) : Type 0 where
  pub left : NoneLeft c o.pages n.pages
  pub looks : LooksInVain c o n
  pub blank : (p : ℕ) → p < n.pages.count → (page_at n.pages p).class ≢ Some 0
  pub whole : (p : ℕ) → p < n.pages.count → ¬ WhollyMine (page_at n.pages p)
  pub unopened : n.queues.unopened ≡ 0

-- each page of class c was searched in vain; then page p was read from the bell and was searched again, and the value
-- is there
pub record CameByBell (c p key : ℕ) (value : List ℕ) (o n : Paged) : Type 0 where
  pub searched : Paged
  pub done : ClassDone c o searched
  pub heard : Paged
  pub reads : ReadFromBell p searched heard
  pub bell : BellDone o heard
  pub tried : Paged
  pub again : WorksThroughout heard tried
  pub inserts : PageInserts p value key tried n

-- each page of class c and the bell were searched in vain; then page p, the next one for the class, was given it, and
-- the value is there
pub record NextAfterSearch (c p key : ℕ) (value : List ℕ) (o n : Sharded) : Type 0 where
  pub searched : Sharded
  pub left : NoneLeft c o.pages searched.pages
  pub opened : searched.queues.opened ≡ o.queues.opened
  pub given : Sharded
  pub prepares : PreparesPage c p searched given
  pub queues : n.queues ≡ given.queues
  pub inserts : PageInserts p value key given.pages n.pages

-- Where page p was found for class c, and from which of its slots the insert takes. It had the class, and was found in
-- the queue, or after the bell, if it was in the queue before or came by the bell. The slots are those that it had; if
-- it had none, they were put on it by others. Or it was given the class after all that, and its slot 0 is taken.
abbrev pub FoundFor : Layout → (c p key : ℕ) → (value : List ℕ) → Sharded → Sharded → Type 0
FoundFor layout c p key value o n = (((page_at o.pages p).class ≡ Some (c + 1))
    × UsesFirst layout (OwnFirst (lists_at o.pages p)) p key o.pages n.pages
    × (FoundInQueue c p o n ⊎ (FoundAfterBell c p o n × ((has_number p (class_queue o.queues c) ≡ true)
    ⊎ CameByBell c p key value o.pages n.pages))))
    ⊎ (((page_at o.pages p).class ≢ Some (c + 1)) × (first : UsesFirst layout (AllFree c) p key o.pages n.pages)
    × (first.slot ≡ 0) × NextAfterSearch c p key value o n × FoundNext c p o n)

-- a value of class c went to a page that has the class, and no other page changed its class
pub record FindsPage (layout : Layout) (c key : ℕ) (value : List ℕ) (o n : Sharded) : Type 0 where
  pub page : ℕ
  pub inside : page < n.pages.count
  pub names : IsKeyOn layout o.pages.owner (heap_page o.pages.owner (shard_page o.pages.shard page)) key
  pub class : (page_at n.pages page).class ≡ Some (c + 1)
  pub others : (q : ℕ) → q ≢ page → (page_at n.pages q).class ≡ (page_at o.pages q).class
  pub opened : OpensFor page o.queues n.queues
  pub found : FoundFor layout c page key value o n

-- An insert of a value of class c. The value is added to the log, or there is no room. Or nothing of the class is left,
-- and the growth of the segment that has the next page was refused.
abbrev pub InsertServes : Layout → ℕ → List ℕ → Sharded → Result ℕ Refusal → Sharded → Type 0
InsertServes layout c value o (Ok key) n = Added value key o.pages n.pages
    × IsKeyIn layout o.pages.owner o.pages.shard key × FindsPage layout c key value o n
InsertServes layout c value o (Err refusal.Full) n = NoRoom c o n
InsertServes layout c value o (Err refusal.Memory) n = WorksThroughout o.pages n.pages × NoneLeft c o.pages n.pages
    × NeedsSegment c n × LooksInVain c o n
InsertServes layout c value o (Err _) n = ⊥

-- the class of a value
abbrev pub value_class : List ℕ → ℕ
value_class value = elim (class_of (length value)) [ Some c ↦ c | None ↦ 0 ]

-- the front page of class c has a slot of its owner
pub record IsQuick (c : ℕ) (o : Sharded) : Type 0 where
  pub page : ℕ
  pub slot : ℕ
  pub front : slice_get (class_queue o.queues c) 0 ≡ Some page
  pub mine : (page_at o.pages page).mine slot ≡ true

-- an insert that is done in this number of steps
abbrev pub DoneIn : ℕ → Sharded → Result ℕ Refusal → Sharded → Type 0
DoneIn n o (Ok key) m = TakesSteps n o.pages m.pages
DoneIn n o (Err _) m = ⊥

-- ---- the four calls

-- If the call freed a slot of the shard, its page has the slot, and came back if it was in the full queue. Nothing else
-- moved, and all other pages and the bell are as they were.
pub record ReturnsSlot (o n : Sharded) : Type 0 where
  pub gained : Option ℕ
  pub slot : GainsSlot gained o.pages n.pages
  pub queues : n.queues ≡ gained_back gained n.pages o.queues

-- no slot and no page moved
abbrev pub MovesNothing : Sharded → Sharded → Type 0
MovesNothing o n = GainsSlot None o.pages n.pages × (n.queues ≡ o.queues)

-- ---- adopting and leaving a shard

-- Shard k is the pass's own. Each page that has a class is in the queue of the class, once, and no other page is; each
-- queue rises. Or no shard has this number, or it has an owner, or memory was refused.
abbrev pub AdoptServes : ℕ → Caller → Result Sharded (Caller × Refusal) → Type 0
AdoptServes k v (Ok n) = (k < v.view.shape.shards) × AdoptsShard v k n.pages × OpensClassed n.pages n.queues
    × FilesRising n.queues × SortedPages n.pages n.queues
AdoptServes k v (Err r) = AdoptRefused k v r.0 r.1

-- the shard is left, or leaving waits for others and the shard is returned
abbrev pub LeaveServes : Sharded → Result Caller (Sharded × Refusal) → Type 0
LeaveServes o (Ok w) = ShardLeft o.pages.owner w
LeaveServes o (Err r) = (r.1 ≡ refusal.Waiting) × Waiting o.pages r.0.pages × ReturnsRising o.queues r.0.queues
    × ReturnsEach r.0.pages o.queues r.0.queues
