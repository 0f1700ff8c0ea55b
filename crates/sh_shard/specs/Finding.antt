-- The page in which each part of an insert finds room for a value.
use Rattle.std.specs.Prelude.{◌≡◌, ℕ, ◌+◌, ◌<◌, true, List, Some, slice_get, length, Result, Ok, Err}
use Rattle.sh_key.specs.Layout.{Layout}
use Rattle.sh_queue.specs.Numbers.{has_number}
use Rattle.sh_queue.specs.Queues.{class_queue}
use Rattle.sh_value.specs.declared.refusal.Refusal.{Refusal}
use Rattle.sh_value.specs.declared.refusal.Refusal.TheVariants as refusal
use Rattle.sh_shard.specs.Steps.{StepsAtMost}
use Rattle.sh_shard.specs.Slots.{SameSlots, OwnFirst, AllFree}
use Rattle.sh_shard.specs.Pages.{Paged, page_at, lists_at, NamesSlot, PageInserts, UsesFirst, TakesSteps}
use Rattle.sh_shard.specs.Works.{WorksThroughout}
use Rattle.sh_shard.specs.Shards.{Sharded, FoundInQueue, PreparesPage, NoPageFor, NeedsSegment}

-- the value is in page p of class c, after work on the pages of the shard
pub record StoresIn (layout : Layout) (c p key : ℕ) (value : List ℕ) (o n : Paged) : Type 0 where
  pub inside : p < o.count
  pub class : (page_at o p).class ≡ Some (c + 1)
  pub names : NamesSlot layout p key o
  pub tried : Paged
  pub through : WorksThroughout o tried
  pub inserts : PageInserts p value key tried n
  pub first : UsesFirst layout (OwnFirst (lists_at o p)) p key o n

-- the value is in the front page of the class, and the queues are as they were
pub record StoresAtFront (layout : Layout) (c key : ℕ) (value : List ℕ) (o n : Sharded) : Type 0 where
  pub page : ℕ
  pub front : slice_get (class_queue o.queues c) 0 ≡ Some page
  pub inside : page < o.queues.opened
  pub counted : page < o.pages.count
  pub queues : n.queues ≡ o.queues
  pub class : (page_at o.pages page).class ≡ Some (c + 1)
  pub names : NamesSlot layout page key o.pages
  pub inserts : PageInserts page value key o.pages n.pages
  pub first : UsesFirst layout (SameSlots (lists_at o.pages page)) page key o.pages n.pages
  pub steps : TakesSteps (length value + 2) o.pages n.pages

-- the value is in a page of the queue of the class
pub record StoresInQueue (layout : Layout) (c key : ℕ) (value : List ℕ) (o n : Sharded) : Type 0 where
  pub page : ℕ
  pub here : has_number page (class_queue o.queues c) ≡ true
  pub inside : page < o.queues.opened
  pub opened : n.queues.opened ≡ o.queues.opened
  pub finds : FoundInQueue c page o n
  pub stores : StoresIn layout c page key value o.pages n.pages

-- the value is in the next page for the class, which was given that class
pub record StoresInNext (layout : Layout) (c key : ℕ) (value : List ℕ) (o n : Sharded) : Type 0 where
  pub page : ℕ
  pub names : NamesSlot layout page key o.pages
  pub given : Sharded
  pub prepares : PreparesPage c page o given
  pub inserts : PageInserts page value key given.pages n.pages
  pub first : UsesFirst layout (AllFree c) page key o.pages n.pages
  pub queues : n.queues ≡ given.queues
  pub steps : StepsAtMost (length value + 3) o.pages.owner n.pages.owner

-- An insert of a value of class c into a page that had another class or none. If no page could take the value, or the
-- growth of a segment was refused, nothing is changed.
abbrev pub InsertsElsewhere : Layout → ℕ → List ℕ → Sharded → Result ℕ Refusal → Sharded → Type 0
InsertsElsewhere layout c value o (Ok key) n = StoresInNext layout c key value o n
InsertsElsewhere layout c value o (Err refusal.Full) n = (n ≡ o) × NoPageFor c o
InsertsElsewhere layout c value o (Err refusal.Memory) n = (n ≡ o) × NeedsSegment c o
InsertsElsewhere layout c value o (Err _) n = ⊥
