-- The keys of a heap of which all passes met, by the places of their slots: 48 for each page, in the order of the
-- pages.
use Rattle.std.specs.Prelude.{◌≡◌, ℕ, ◌*◌, ◌/◌, ◌%◌, true, false, List, Option, Some, None}
use Rattle.sh_history.specs.declared.entry.Entry.{Entry}
use Rattle.sh_key.specs.Layout.{Layout}
use Rattle.sh_shape.specs.Places.{all_pages, slot_places}
use Rattle.sh_shape.specs.Shape.{Numbers}
use Rattle.sh_slots.specs.declared.hand.KeyRef.{KeyRef}
use Rattle.sh_step.specs.Plans.{Plan, plan_of}
use Rattle.sh_table.specs.declared.view.View.{View}
use Rattle.sh_gather.specs.Histories.{CanBe, IsHistory}
use Rattle.sh_gather.specs.PageKeys.{is_live_key}

-- how many places the pages of the heap have together
abbrev pub all_places : Numbers → ℕ
all_places shape = all_pages shape * slot_places

-- the key names the slot at this place
pub record NamesPlace (plan : Plan) (place k : ℕ) : Type 0 where
  pub name : KeyRef
  pub unpacks : plan.keys.unpack k ≡ Some name
  pub page : name.page ≡ place / slot_places
  pub slot : name.slot ≡ place % slot_places

-- by every history of the tale no key of this place is live
abbrev pub NoneLiveAt : Layout → View → ℕ → Type 0
NoneLiveAt layout v place = (history : List Entry) (k : ℕ) → IsHistory layout v history
    → NamesPlace (plan_of layout v.shape) place k → is_live_key history k ≡ false

-- by every history of the tale this key of this place is live, and no other is; and there is a history
pub record IsLiveAt (layout : Layout) (v : View) (place k : ℕ) : Type 0 where
  pub names : NamesPlace (plan_of layout v.shape) place k
  pub live : (history : List Entry) → IsHistory layout v history → is_live_key history k ≡ true
  pub alone : (history : List Entry) (j : ℕ) → IsHistory layout v history → NamesPlace (plan_of layout v.shape) place j
      → is_live_key history j ≡ true → j ≡ k
  pub can_be : CanBe layout v

-- what is live at this place
abbrev pub AreLiveAt : Layout → View → ℕ → Option ℕ → Type 0
AreLiveAt layout v place None = NoneLiveAt layout v place
AreLiveAt layout v place (Some k) = IsLiveAt layout v place k
