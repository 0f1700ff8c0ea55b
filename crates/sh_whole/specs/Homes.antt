-- The passes of a pool that were called together, and what is known by them.
use Rattle.std.specs.Prelude.{◌≡◌, ◌<◌, ℕ, All, List, length, Option, Result, Ok, Err}
use Rattle.sh_key.specs.Layout.{Layout}
use Rattle.sh_shape.specs.Places.{all_pages, page_number}
use Rattle.sh_table.specs.Seats.{Heap}
use Rattle.sh_table.specs.Whole.{IsWhole}
use Rattle.sh_pass.specs.Passes.{AreAll, AreOf, Caller}
use Rattle.sh_core.specs.declared.accounts.Accounts.{Accounts}
use Rattle.sh_accounts.specs.Accounts.{ShapeHasPage}
use Rattle.sh_gather.specs.Gathering.{AreWholeAccounts, IsGatheredFrom, NotedMore}
use Rattle.sh_gather.specs.declared.accounts_by_page.PageAccounts.{PageAccounts}
use Rattle.sh_gather.specs.declared.totals.Totals.{Totals}
use Rattle.sh_gather.specs.PageLists.{AreFirst}
use Rattle.sh_gather.specs.Sums.{sums}
use Rattle.sh_pass.specs.declared.next_key.NextKey.{NextKey}
use Rattle.sh_gather.specs.NextKeys.{IsNextKey}
use Rattle.sh_whole.specs.declared.refusal.NotTold.{NotTold}
use Rattle.sh_whole.specs.declared.refusal.NotTold.TheVariants as untold

-- the number of a pool slot of the heap's pool
abbrev pub IsPoolSlot : Heap → ℕ → Type 0
IsPoolSlot heap pool_slot = pool_slot < heap.shape.passes

-- passes of the heap, and a pool slot of it for each
pub record AreCalled (heap : Heap) (passes : List Caller) (pool_slots : List ℕ) : Type 0 where
  pub of : AreOf heap passes
  pub own : All (IsPoolSlot heap) pool_slots
  pub count : length pool_slots ≡ length passes

-- a pass of the heap that carries the tales of all
abbrev pub IsWholeOf : Heap → Caller → Type 0
IsWholeOf heap c = (c.heap ≡ heap) × IsWhole c.view

-- the same, with a pool slot, and with the passes whose tales it carries: passes of the heap that together name all
pub record IsGatheredIn (heap : Heap) (c : Caller) (pool_slot : ℕ) : Type 0 where
  pub whole : IsWholeOf heap c
  pub passes : List Caller
  pub of : AreOf heap passes
  pub all : AreAll heap passes
  pub from : IsGatheredFrom passes c.view
  pub home : IsPoolSlot heap pool_slot

-- the accounts of a shard's page, by a pass of the heap that carries the tales of all
pub record AreAccountsOf (layout : Layout) (heap : Heap) (shard page : ℕ) (a : Accounts) : Type 0 where
  pub there : ShapeHasPage heap.shape shard page
  pub teller : Caller
  pub whole : IsWholeOf heap teller
  pub are : AreWholeAccounts layout teller.view (page_number heap.shape shard page) a

-- the sums over all pages, whose accounts are those of such a pass
pub record AreTotalsOf (layout : Layout) (heap : Heap) (t : Totals) : Type 0 where
  pub first : Caller
  pub last : Caller
  pub whole : IsWholeOf heap first
  pub tale : NotedMore first.view last.view
  pub pages : List PageAccounts
  pub each : AreFirst layout first last (all_pages heap.shape) pages
  pub sum : t ≡ sums pages

-- ---- the calls

-- passes of the heap that together carry all tales are joined in one, or refused: nothing is said of Away and Memory
abbrev pub GathersAll : Heap → Result (Caller × ℕ) NotTold → Type 0
GathersAll heap (Ok r) = IsGatheredIn heap r.0 r.1
GathersAll heap (Err untold.Away) = Unit {0}
GathersAll heap (Err untold.Memory) = Unit {0}
GathersAll heap (Err untold.NoPage) = ⊥

-- the same if the joined pass is not shown
abbrev pub GathersPool : Heap → Result (Unit {0}) NotTold → Type 0
GathersPool heap (Ok _) = (c : Caller) × (pool_slot : ℕ) × GathersAll heap (Ok (c, pool_slot))
GathersPool heap (Err why) = GathersAll heap (Err why)

-- the accounts of a page, or that there is no such page; nothing is said of Away
abbrev pub TellsAccounts : Layout → Heap → (shard page : ℕ) → Result Accounts NotTold → Type 0
TellsAccounts layout heap shard page (Ok a) = AreAccountsOf layout heap shard page a
TellsAccounts layout heap shard page (Err untold.Away) = Unit {0}
TellsAccounts layout heap shard page (Err untold.NoPage) = ¬ ShapeHasPage heap.shape shard page
TellsAccounts layout heap shard page (Err untold.Memory) = ⊥

-- the totals; nothing is said of Away
abbrev pub TellsTotals : Layout → Heap → Result Totals NotTold → Type 0
TellsTotals layout heap (Ok t) = AreTotalsOf layout heap t
TellsTotals layout heap (Err untold.Away) = Unit {0}
TellsTotals layout heap (Err untold.NoPage) = ⊥
TellsTotals layout heap (Err untold.Memory) = ⊥

-- the next live key from a place on, or that there is none; nothing is said of Away
abbrev pub TellsNextKey : Layout → Heap → ℕ → Result (Option NextKey) NotTold → Type 0
TellsNextKey layout heap from (Ok next) = (teller : Caller) × IsWholeOf heap teller × IsNextKey layout teller from next
TellsNextKey layout heap from (Err untold.Away) = Unit {0}
TellsNextKey layout heap from (Err untold.NoPage) = ⊥
TellsNextKey layout heap from (Err untold.Memory) = ⊥
