-- The accounts of a page: which pages there are, and what its numbers are.
use Rattle.std.specs.Prelude.{ℕ, ◌≡◌, ◌+◌, ◌<◌, List, get_or, Option, Some, None}
use Rattle.sh_word.specs.Fields.{fields_of}
use Rattle.sh_word.specs.Kinds.{kind_of}
use Rattle.sh_key.specs.Layout.{Layout}
use Rattle.sh_shape.specs.declared.places.Place.{Place}
use Rattle.sh_shape.specs.declared.places.Place.TheVariants.{Class, State}
use Rattle.sh_shape.specs.Classes.{class_count, slots}
use Rattle.sh_shape.specs.Places.{number, pages_of}
use Rattle.sh_shape.specs.Shape.{Numbers}
use Rattle.sh_slots.specs.declared.hand.SlotRef.{SlotRef}
use Rattle.sh_step.specs.declared.action.Event.{Event}
use Rattle.sh_step.specs.Collections.{if1}
use Rattle.sh_step.specs.Plans.{plan_of}
use Rattle.sh_core.specs.declared.accounts.Accounts.{Accounts}
use Rattle.sh_core.specs.Kept.{KeptWorld, Represents}
use Rattle.sh_core.specs.Lists.{accounts, lists_of, among}
use Rattle.sh_core.specs.Worlds.{run}
use Rattle.sh_accounts.specs.declared.kinds.SlotKind.{SlotKind}
use Rattle.sh_accounts.specs.declared.kinds.SlotKind.TheVariants.{Live, Marked, Retired, Mine, Hand, Queued}
use Rattle.sh_accounts.specs.Kinds.{is, slot_kind_by}

-- the shape has this page of this shard
abbrev pub ShapeHasPage : Numbers → (shard page : ℕ) → Type 0
ShapeHasPage shape shard page = (shard < shape.shards) × (page < pages_of shape)

-- they are those of page q over the whole heap, after each list of events that leads to what is kept
abbrev pub AreAccounts : Layout → KeptWorld → ℕ → Accounts → Type 0
AreAccounts layout k q a = (es : List Event) → Represents k (run (plan_of layout k.shape) es)
    → a ≡ accounts (run (plan_of layout k.shape) es) (lists_of (plan_of layout k.shape) es) q

-- the six numbers together
abbrev pub all_slots : Accounts → ℕ
all_slots a = a.live + a.marked + a.retired + a.mine + a.hand + a.queued

-- the accounts of a page with no slot yet
abbrev pub no_slots : Option ℕ → Accounts
no_slots class = record { class = class; live = 0; marked = 0; retired = 0; mine = 0; hand = 0; queued = 0 }

-- each slot of the class is counted once; a blank page has none
abbrev pub FillPage : Accounts → Type 0
FillPage a = elim (a.class) [ Some c ↦ (c < class_count) × (all_slots a ≡ slots c) | None ↦ a ≡ no_slots None ]

-- what is kept of a word, 0 if there is none
abbrev pub kept_word : KeptWorld → Place → ℕ
kept_word k p = get_or k.words (number k.shape p) 0

-- the class word of page q
abbrev pub class_word : KeptWorld → ℕ → ℕ
class_word k q = kept_word k (Class q)

-- what a slot is, if it is one of its page's class
abbrev pub kind_in : KeptWorld → SlotRef → SlotKind
kind_in k x = slot_kind_by (kind_of (fields_of (kept_word k (State x.page x.slot)))) k.parts x

-- how many of the first n slots of page q are of this kind
abbrev pub count : KeptWorld → ℕ → SlotKind → ℕ → ℕ
count k q kind n = among q (λ x. if1 (is kind (kind_in k x))) n

-- the first n slots of page q by their kinds
unfoldable pub counted : KeptWorld → (q class n : ℕ) → Accounts
counted k q class n = record {
  class = Some class;
  live = count k q Live n;
  marked = count k q Marked n;
  retired = count k q Retired n;
  mine = count k q Mine n;
  hand = count k q Hand n;
  queued = count k q Queued n;
}
