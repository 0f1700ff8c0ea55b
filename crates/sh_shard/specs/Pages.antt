-- What a contract sees of the pages of an owner's shard, and what work on them does.
use Rattle.std.specs.Prelude.{◌≡◌, ◌≢◌, ℕ, zero, suc, ◌+◌, ◌-◌, ◌<◌, ◌≤◌, ◌==◌, ◌⊎◌, Bool, true, false, List, []}
use Rattle.std.specs.Prelude.{◌∷◌, ◌++◌, length, Option, Some, None, MatchOption, IfSome, Result, Ok, Err}
use Rattle.sh_history.specs.declared.entry.Entry.TheVariants as entry
use Rattle.sh_history.specs.declared.log.LogEntry.TheVariants.{Known}
use Rattle.sh_key.specs.Layout.{Layout}
use Rattle.sh_shape.specs.Classes.{slots}
use Rattle.sh_shape.specs.Places.{pages_of, slot_places}
use Rattle.sh_slots.specs.declared.hand.Hand.TheVariants.{Idle}
use Rattle.sh_step.specs.Collections.{if1}
use Rattle.sh_step.specs.Footsteps.{owner_met}
use Rattle.sh_step.specs.declared.action.PageName.{PageName}
use Rattle.sh_table.specs.Tales.{ViewIsValid}
use Rattle.sh_value.specs.declared.refusal.Refusal.{Refusal}
use Rattle.sh_value.specs.declared.refusal.Refusal.TheVariants as refusal
use Rattle.sh_pass.specs.Growing.{SameTale}
use Rattle.sh_pass.specs.Passes.{Caller}
use Rattle.sh_pass.specs.Receipts.{heeded}
use Rattle.sh_pass.specs.Owners.{SeenPage, SeenBell, Aside, NonePut, NoneArmed, HasNothing, heap_page, own_body}
use Rattle.sh_pass.specs.Owners.{page_given, page_with, seen_bell, seen_page, heap_slot, IsKeyIn, IsKeyOn, IsKeyOfSlot}
use Rattle.sh_pass.specs.Owners.{FoundFree}
use Rattle.sh_lists.specs.Lists.{Lists, refilled}
use Rattle.sh_states.specs.declared.states.PageState.{PageState}
use Rattle.sh_states.specs.States.{state_at}
use Rattle.sh_step.specs.Plans.{plan_of}
use Rattle.sh_shard.specs.Slots.{SameSlots, AllFree}

-- what the owner knows, its shard, the number of its pages, its bell as the owner sees it, and what is kept of the
-- pages
pub record Paged : Type 0 where
  pub owner : Caller
  pub shard : ℕ
  pub count : ℕ
  pub bell : SeenBell
  pub kept : List PageState

-- the pages, once their owner has heeded the receipt
abbrev pub pages_heeded : Paged → Caller → Paged
pages_heeded v r = record {
  owner = heeded v.owner r;
  shard = v.shard;
  count = v.count;
  bell = v.bell;
  kept = v.kept;
}

-- page p of the shard
abbrev pub shard_page : ℕ → ℕ → PageName
shard_page shard p = record { shard = shard; page = p }

-- page p of the shard as the owner sees it
abbrev pub page_at : Paged → ℕ → SeenPage
page_at v p = seen_page v.owner (heap_page v.owner (shard_page v.shard p))

-- the lists of the slots of page p that are its owner's
abbrev pub lists_at : Paged → ℕ → Lists
lists_at v p = (state_at v.kept p).lists

-- each page has the slots that it had, in the order in which it had them
abbrev pub SameLists : Paged → Paged → Type 0
SameLists o n = (q : ℕ) → SameSlots (lists_at o q) (lists_at n q)

-- The shard has as many pages as its heap's shape says, and the class word of each is known.
pub record KnowsWords (v : Paged) : Type 0 where
  pub count : v.count ≡ pages_of v.owner.view.shape
  pub words : (p : ℕ) → p < v.count → (word : ℕ) × ((page_at v p).class ≡ Some word)

-- Nothing is begun, the shard is the owner's, and all that it knows is true in the heap's shape. The bell is that of
-- its shard as the owner sees it.
pub record HoldsPages (layout : Layout) (v : Paged) : Type 0 where
  pub stands : ViewIsValid layout v.owner.view
  pub idle : (own_body v.owner).hand ≡ Idle
  pub owned : (own_body v.owner).owned ≡ Some v.shard
  pub shape : v.owner.view.shape ≡ v.owner.heap.shape
  pub bell : v.bell ≡ seen_bell layout v.owner v.shard
  pub known : KnowsWords v

-- the page's class word, 0 if none is known
abbrev pub seen_class : SeenPage → ℕ
seen_class g = elim (g.class) [ Some c ↦ c | None ↦ 0 ]

-- how many numbers below n pass the test
abbrev pub count_below : (ℕ → Bool) → ℕ → ℕ
count_below f zero = 0
count_below f (suc n) = if1 (f n) + count_below f n

-- how many slots of the page are its owner's
abbrev pub own_slots : SeenPage → ℕ
own_slots g = count_below g.mine slot_places

-- how many slots a page with this class word has
abbrev pub word_slots : ℕ → ℕ
word_slots zero = 0
word_slots (suc c) = slots c

-- how many slots of the page are not its owner's
abbrev pub page_out : SeenPage → ℕ
page_out g = word_slots (seen_class g) - own_slots g

-- the sum over the numbers below n
abbrev pub sum_below : (ℕ → ℕ) → ℕ → ℕ
sum_below f zero = 0
sum_below f (suc n) = f n + sum_below f n

-- how many slots of the shard's pages are not the owner's
abbrev pub slots_out : Paged → ℕ
slots_out v = sum_below (λ p. page_out (page_at v p)) v.count

-- how many pages of the shard have no class
abbrev pub blank_pages : Paged → ℕ
blank_pages v = count_below (λ p. seen_class (page_at v p) == 0) v.count

abbrev pub NothingMine : SeenPage → Type 0
NothingMine g = (s : ℕ) → g.mine s ≡ false

-- all slots of the page's class are its owner's
pub record WhollyMine (g : SeenPage) : Type 0 where
  pub class : ℕ
  pub classed : g.class ≡ Some (suc class)
  pub mine : (s : ℕ) → s < slots class → g.mine s ≡ true

-- none of the first n pages is wholly the owner's
abbrev pub NoneWhollyMine : ℕ → Paged → Type 0
NoneWhollyMine n v = (p : ℕ) → p < n → ¬ WhollyMine (page_at v p)

-- the pages from k on are blank
abbrev pub BlankFrom : ℕ → Paged → Type 0
BlankFrom k v = (p : ℕ) → k ≤ p → p < v.count → (page_at v p).class ≡ Some 0

-- the owner has nothing in a blank page
abbrev pub BlankHasNothing : Paged → Type 0
BlankHasNothing v = (p : ℕ) → p < v.count → (page_at v p).class ≡ Some 0 → HasNothing (page_at v p)

abbrev pub HasCursor : Option ℕ → Type 0
HasCursor c = MatchOption c ⊥ (λ _. Unit {0})

-- if the page has a cursor, a link was not written in this work
abbrev pub WaitsSince : SeenPage → SeenPage → Type 0
WaitsSince g h = MatchOption h.cursor (Unit {0}) (λ _. g.met < h.met)

-- this number of steps was taken
abbrev pub TakesSteps : ℕ → Paged → Paged → Type 0
TakesSteps n v w = length w.owner.view.own.trail ≡ length v.owner.view.own.trail + n

abbrev pub NoArming : Paged → Paged → Type 0
NoArming o n = NoneArmed o.owner n.owner

-- at most k steps were taken, and one for each slot that the owner gained in page p
abbrev pub StepsForSlots : (k p : ℕ) → Paged → Paged → Type 0
StepsForSlots k p o n = length n.owner.view.own.trail + own_slots (page_at o p)
    ≤ length o.owner.view.own.trail + own_slots (page_at n p) + k

-- how many pages are armed
abbrev pub armed_pages : Paged → ℕ
armed_pages v = count_below (λ p. (page_at v p).armed) v.count

-- at most this many steps were taken, and one for each page that is no longer armed
abbrev pub StepsForRings : ℕ → Paged → Paged → Type 0
StepsForRings k o n = length n.owner.view.own.trail + armed_pages n ≤ length o.owner.view.own.trail + armed_pages o + k

-- ---- work on one page

-- work on page p alone, which adds nothing to the log and puts nothing
pub record WorksOn (p : ℕ) (o n : Paged) : Type 0 where
  pub aside : Aside o.owner n.owner
  pub put : NonePut o.owner n.owner
  pub bell : n.bell ≡ o.bell
  pub log : n.owner.view.own.log ≡ o.owner.view.own.log
  pub shard : n.shard ≡ o.shard
  pub count : n.count ≡ o.count
  pub class : (page_at n p).class ≡ (page_at o p).class
  pub takes : (page_at o p).takes ≤ (page_at n p).takes
  pub met : (page_at o p).met ≤ (page_at n p).met
  pub others : (q : ℕ) → q ≢ p → page_at n q ≡ page_at o q
  pub beside : (q : ℕ) → q ≢ p → SameSlots (lists_at o q) (lists_at n q)

-- what was put on the page was taken: the page is armed as before, or no longer armed
pub record TakesPage (p : ℕ) (o n : Paged) : Type 0 where
  pub works : WorksOn p o n
  pub arm : NoArming o n
  pub takes : (page_at n p).takes ≡ (page_at o p).takes + 1
  pub armed : (page_at o p).armed ≡ false → (page_at n p).armed ≡ false
  pub steps : StepsForSlots 1 p o n

-- the cursor moved on, and the owner has one slot more
pub record CursorMoves (p : ℕ) (o n : Paged) : Type 0 where
  pub works : WorksOn p o n
  pub arm : NoArming o n
  pub armed : (page_at n p).armed ≡ (page_at o p).armed
  pub more : own_slots (page_at n p) ≡ own_slots (page_at o p) + 1
  pub steps : StepsForSlots 0 p o n

-- the cursor is at its end, or met a link that was not written
pub record CursorStops (p : ℕ) (o n : Paged) : Type 0 where
  pub works : WorksOn p o n
  pub arm : NoArming o n
  pub armed : (page_at n p).armed ≡ (page_at o p).armed
  pub waits : WaitsSince (page_at o p) (page_at n p)
  pub steps : StepsForSlots 1 p o n

-- the page's stack was collected, as far as its links are written
pub record CollectsPage (p : ℕ) (o n : Paged) : Type 0 where
  pub works : WorksOn p o n
  pub waits : WaitsSince (page_at o p) (page_at n p)
  pub steps : StepsForSlots 2 p o n

-- after this the page is armed, unless it has a cursor; that cursor was there before, or met a link that was not
-- written
pub record ArmsAndFollows (p : ℕ) (o n : Paged) : Type 0 where
  pub works : WorksOn p o n
  pub waits : MatchOption (page_at n p).cursor ((page_at n p).armed ≡ true)
      (λ _. (n ≡ o) ⊎ ((page_at o p).met < (page_at n p).met))
  pub steps : StepsForSlots 2 p o n

-- nothing is left in the page: if it has a cursor, a link was not written in this call; if it has none, it is armed
pub record PageDone (o n : Paged) (p : ℕ) : Type 0 where
  pub mine : NothingMine (page_at n p)
  pub waits : MatchOption (page_at n p).cursor ((page_at n p).armed ≡ true) (λ _. (page_at o p).met < (page_at n p).met)

-- the value was added to the log under this key, in page p; nothing was put, and no page changed its class
pub record PageInserts (p : ℕ) (value : List ℕ) (key : ℕ) (o n : Paged) : Type 0 where
  pub aside : Aside o.owner n.owner
  pub put : NonePut o.owner n.owner
  pub bell : n.bell ≡ o.bell
  pub log : n.owner.view.own.log ≡ o.owner.view.own.log ++ Known (entry.Insert o.owner.view.pass key value) ∷ []
  pub shard : n.shard ≡ o.shard
  pub count : n.count ≡ o.count
  pub class : (page_at n p).class ≡ (page_at o p).class
  pub others : (q : ℕ) → q ≢ p → page_at n q ≡ page_at o q

-- the key names a slot of page p, which is in the shard
pub record NamesSlot (layout : Layout) (p key : ℕ) (v : Paged) : Type 0 where
  pub shard : IsKeyIn layout v.owner v.shard key
  pub page : IsKeyOn layout v.owner (heap_page v.owner (shard_page v.shard p)) key

-- The key names the first slot of page p: the front of `free`, or of `local` if that was empty. The page has the slots
-- behind it, in their order, and each other page has those that it had. `from` says what is known of the lists from
-- which the slot was taken.
pub record UsesFirst (layout : Layout) (from : Lists → Type 0) (p key : ℕ) (o n : Paged) : Type 0 where
  pub lists : Lists
  pub come : from lists
  pub slot : ℕ
  pub front : refilled lists ≡ record (lists_at n p) { free = slot ∷ (lists_at n p).free }
  pub names : IsKeyOfSlot (plan_of layout o.owner.view.shape) (heap_slot o.owner (shard_page o.shard p) slot) key
  pub beside : (q : ℕ) → q ≢ p → SameSlots (lists_at o q) (lists_at n q)

-- page p was given class c: all its slots are its owner's
pub record GivesClass (p c : ℕ) (o n : Paged) : Type 0 where
  pub aside : Aside o.owner n.owner
  pub put : NonePut o.owner n.owner
  pub arm : NoArming o n
  pub bell : n.bell ≡ o.bell
  pub log : n.owner.view.own.log ≡ o.owner.view.own.log
  pub shard : n.shard ≡ o.shard
  pub count : n.count ≡ o.count
  pub here : page_at n p ≡ page_given (page_at o p) c
  pub others : (q : ℕ) → q ≢ p → page_at n q ≡ page_at o q
  pub free : AllFree c (lists_at n p)
  pub beside : (q : ℕ) → q ≢ p → SameSlots (lists_at o q) (lists_at n q)
  pub steps : TakesSteps 1 o n

-- ---- the bell

-- what was put on the bell was taken
pub record BellTakes (o n : Paged) : Type 0 where
  pub aside : Aside o.owner n.owner
  pub put : NonePut o.owner n.owner
  pub arm : NoArming o n
  pub log : n.owner.view.own.log ≡ o.owner.view.own.log
  pub shard : n.shard ≡ o.shard
  pub count : n.count ≡ o.count
  pub takes : n.bell.takes ≡ o.bell.takes + 1
  pub met : n.bell.met ≡ o.bell.met
  pub pages : (q : ℕ) → page_at n q ≡ page_at o q
  pub lists : SameLists o n
  pub steps : StepsForRings 1 o n

-- the bell's cursor is at its end, or met a link that was not written
pub record BellStops (o n : Paged) : Type 0 where
  pub aside : Aside o.owner n.owner
  pub put : NonePut o.owner n.owner
  pub arm : NoArming o n
  pub log : n.owner.view.own.log ≡ o.owner.view.own.log
  pub shard : n.shard ≡ o.shard
  pub count : n.count ≡ o.count
  pub takes : n.bell.takes ≡ o.bell.takes
  pub met : o.bell.met ≤ n.bell.met
  pub waits : MatchOption n.bell.cursor (Unit {0}) (λ _. o.bell.met < n.bell.met)
  pub pages : (q : ℕ) → page_at n q ≡ page_at o q
  pub lists : SameLists o n
  pub steps : StepsForRings 1 o n

-- page p was read from the bell: it was armed, and no longer is
pub record BellReads (p : ℕ) (o n : Paged) : Type 0 where
  pub aside : Aside o.owner n.owner
  pub put : NonePut o.owner n.owner
  pub arm : NoArming o n
  pub log : n.owner.view.own.log ≡ o.owner.view.own.log
  pub shard : n.shard ≡ o.shard
  pub count : n.count ≡ o.count
  pub takes : n.bell.takes ≡ o.bell.takes
  pub met : n.bell.met ≡ o.bell.met
  pub inside : p < n.count
  pub was : (page_at o p).armed ≡ true
  pub here : page_at n p ≡ record (page_at o p) { armed = false }
  pub others : (q : ℕ) → q ≢ p → page_at n q ≡ page_at o q
  pub lists : SameLists o n
  pub steps : TakesSteps 1 o n

-- ---- the four calls

-- page p gained this slot, which is in front of `local`
pub record GainsFirst (p : ℕ) (o n : Paged) : Type 0 where
  pub slot : ℕ
  pub here : page_at n p ≡ page_with (page_at o p) slot
  pub lists : lists_at n p ≡ record (lists_at o p) { local = slot ∷ (lists_at o p).local }
  pub beside : (q : ℕ) → q ≢ p → SameSlots (lists_at o q) (lists_at n q)

-- if the owner gained a slot, its page has one more; all other pages and the bell are as they were
pub record GainsSlot (gained : Option ℕ) (o n : Paged) : Type 0 where
  pub owned : (own_body n.owner).owned ≡ (own_body o.owner).owned
  pub same : SameTale o.owner.view n.owner.view
  pub bell : n.bell ≡ o.bell
  pub shard : n.shard ≡ o.shard
  pub count : n.count ≡ o.count
  pub inside : IfSome gained (λ p. p < n.count)
  pub here : IfSome gained (λ p. (s : ℕ) × (page_at n p ≡ page_with (page_at o p) s))
  pub others : (q : ℕ) → gained ≢ Some q → page_at n q ≡ page_at o q
  pub lists : MatchOption gained (SameLists o n) (λ p. GainsFirst p o n)

-- ---- becoming the owner

-- nothing is known of the page except its class word: no slot is its owner's, it has no cursor and is not armed
pub record BarePage (g : SeenPage) : Type 0 where
  pub mine : NothingMine g
  pub cursor : g.cursor ≡ None
  pub armed : g.armed ≡ false
  pub word : ℕ
  pub class : g.class ≡ Some word
  pub few : word ≤ 8

-- shard k is its own, and the class word of each of its pages is known
pub record AdoptsShard (v : Caller) (k : ℕ) (n : Paged) : Type 0 where
  pub heap : n.owner.heap ≡ v.heap
  pub same : SameTale v.view n.owner.view
  pub log : n.owner.view.own.log ≡ v.view.own.log
  pub holds : (own_body n.owner).holds ≡ (own_body v).holds
  pub owned : (own_body n.owner).owned ≡ Some k
  pub shard : n.shard ≡ k
  pub count : n.count ≡ pages_of v.view.shape
  pub bell : n.bell.cursor ≡ None
  pub pages : (p : ℕ) → p < n.count → BarePage (page_at n p)

-- the caller owns no shard, and it has begun nothing; heap, tale, log and holds are as before
pub record ShardLeft (v w : Caller) : Type 0 where
  pub heap : w.heap ≡ v.heap
  pub same : SameTale v.view w.view
  pub log : w.view.own.log ≡ v.view.own.log
  pub holds : (own_body w).holds ≡ (own_body v).holds
  pub hand : (own_body w).hand ≡ Idle
  pub owned : (own_body w).owned ≡ None

-- why a shard was not adopted: no shard has this number, one more step found that it has an owner, or it had none and
-- memory was refused
abbrev pub AdoptRefused : ℕ → Caller → Caller → Refusal → Type 0
AdoptRefused shard v w refusal.NoShard = (v.view.shape.shards ≤ shard) × (w ≡ v)
AdoptRefused shard v w refusal.Taken = (shard < v.view.shape.shards) × ShardLeft v w
    × (length w.view.own.trail ≡ length v.view.own.trail + 1) ×
    (owner_met shard w.view.own.trail ≡ owner_met shard v.view.own.trail + 1)
AdoptRefused shard v w refusal.Memory = (shard < v.view.shape.shards) × ShardLeft v w × FoundFree shard v w
AdoptRefused shard v w _ = ⊥

abbrev pub AdoptsPages : ℕ → Caller → Result Paged (Caller × Refusal) → Type 0
AdoptsPages shard v (Ok n) = (shard < v.view.shape.shards) × AdoptsShard v shard n × FoundFree shard v n.owner
AdoptsPages shard v (Err r) = AdoptRefused shard v r.0 r.1
