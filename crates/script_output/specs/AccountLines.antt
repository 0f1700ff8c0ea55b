-- Account lines: `page S.P class C live A marked B retired D mine E hand F queued G`, and a newline.
use Rattle.std.specs.Prelude.{◌≡◌, ℕ, ◌<◌, Bool, true, List, [], ◌++◌, codes, decimal, Some, None}
use Rattle.std.specs.List.{flat_map, range_with_len}
use Rattle.sh_shape.specs.Shape.{Numbers}
use Rattle.sh_shape.specs.Places.{page_number, pages_of}
use Rattle.sh_step.specs.declared.action.Event.{Event}
use Rattle.sh_step.specs.Plans.{Plan}
use Rattle.sh_core.specs.declared.accounts.Accounts.{Accounts}
use Rattle.sh_core.specs.Lists.{accounts, lists_of}
use Rattle.sh_core.specs.Worlds.{run}

-- the numbers of its slots that are live, marked and retired
abbrev pub used_text : Accounts → List ℕ
used_text a = codes " live " ++ decimal a.live ++ codes " marked " ++ decimal a.marked ++ codes " retired "
    ++ decimal a.retired

-- the numbers of its empty slots: the owner's, in a hand, and queued
abbrev pub empty_text : Accounts → List ℕ
empty_text a = codes " mine " ++ decimal a.mine ++ codes " hand " ++ decimal a.hand ++ codes " queued "
    ++ decimal a.queued

abbrev pub page_name : (shard page : ℕ) → List ℕ
page_name shard page = codes "page " ++ decimal shard ++ codes "." ++ decimal page

abbrev pub account_line : (shard page class : ℕ) → Accounts → List ℕ
account_line shard page class a =
    page_name shard page ++ codes " class " ++ decimal class ++ used_text a ++ empty_text a ++ codes "\n"

-- a page without a class has no line
abbrev pub page_text : (shard page : ℕ) → Accounts → List ℕ
page_text shard page a = elim (a.class) [ Some class ↦ account_line shard page class a | None ↦ [] ]

-- the pages of a shard, in order
abbrev pub shard_text : Numbers → (ℕ → Accounts) → (shard : ℕ) → List ℕ
shard_text shape of_page shard = flat_map (λ page. page_text shard page (of_page (page_number shape shard page)))
    (range_with_len 0 (pages_of shape))

-- by shards, and then by pages; each page has these accounts by its number over the whole heap
abbrev pub accounts_text : Numbers → (ℕ → Accounts) → List ℕ
accounts_text shape of_page = flat_map (shard_text shape of_page) (range_with_len 0 shape.shards)

-- ---- pages that give their accounts

-- the accounts of each page, by its number over the whole heap, after these events
abbrev pub accounts_after : Plan → List Event → ℕ → Accounts
accounts_after plan events = accounts (run plan events) (lists_of plan events)

-- What was known of pages stays known, and the events that lead to what is known are among those that led there before.
-- If asking changes nothing, the state stays the same.
pub record Later {A : Type 0} (fixed : Bool) (numbers : A → Numbers) (leads : A → List Event → Type 0)
    (says : A → ℕ → Accounts → Type 0) (old new : A) : Type 0 where
  pub is_fixed : fixed ≡ true → new ≡ old
  pub same : numbers new ≡ numbers old
  pub narrows : (events : List Event) → leads new events → leads old events
  pub keeps : (q : ℕ) (a : Accounts) → says old q a → says new q a

-- this is known of the first n pages of a shard, each with its accounts
abbrev pub ShardSaid : (ℕ → Accounts → Type 0) → Numbers → (ℕ → Accounts) → (shard n : ℕ) → Type 0
ShardSaid says shape of_page shard n =
    (page : ℕ) → page < n → says (page_number shape shard page) (of_page (page_number shape shard page))

-- this is known of all pages of the first n shards
abbrev pub ShardsSaid : (ℕ → Accounts → Type 0) → Numbers → (ℕ → Accounts) → (n : ℕ) → Type 0
ShardsSaid says shape of_page n = (shard : ℕ) → shard < n → ShardSaid says shape of_page shard (pages_of shape)
