-- What is kept of the pages of an owner's shard.
use Rattle.std.specs.Prelude.{◌≡◌, ℕ, ◌+◌, ◌*◌, ◌<◌, ◌≤◌, false, List, ◌++◌, length, get_or, slice_set, Option}
use Rattle.std.specs.Prelude.{Some, None}
use Rattle.sh_key.specs.Layout.{Layout}
use Rattle.sh_lists.specs.Numbers.{Misses}
use Rattle.sh_queue.specs.Numbers.{has_number}
use Rattle.sh_shape.specs.Places.{pages_of, slot_places}
use Rattle.sh_slots.specs.declared.hand.Hand.TheVariants.{Idle}
use Rattle.sh_slots.specs.declared.hand.SlotRef.{SlotRef}
use Rattle.sh_table.specs.Tales.{ViewIsValid}
use Rattle.sh_pass.specs.Passes.{Caller}
use Rattle.sh_pass.specs.Owners.{SeenPage, heap_page, own_body, seen_page}
use Rattle.sh_states.specs.States.{blank_state, with_local}
use Rattle.sh_states.specs.declared.states.PageState.{PageState}
use Rattle.sh_shard.specs.Pages.{shard_page}

-- What is kept of a page is what its owner knows about it. The slots of the lists are the owner's, and no others are. A
-- blank page is not armed, and has no cursor.
pub record KeepsPage (st : PageState) (g : SeenPage) : Type 0 where
  pub class : g.class ≡ Some st.class_word
  pub few : st.class_word ≤ 8
  pub cursor : g.cursor ≡ st.lists.cursor
  pub armed : g.armed ≡ st.armed
  pub mine : (s : ℕ) → has_number s (st.lists.free ++ st.lists.local) ≡ g.mine s
  pub blank : st.class_word ≡ 0 → st.armed ≡ false
  pub unread : st.class_word ≡ 0 → st.lists.cursor ≡ None

-- the number over the whole heap of a page of the shard, if there is one
abbrev pub rings_at : Caller → ℕ → Option ℕ → Option ℕ
rings_at v shard rings = elim rings [ Some p ↦ Some (heap_page v (shard_page shard p)) | None ↦ None ]

-- nothing is begun, the shard is its own, and what is kept of each page is what is known
pub record KeepsPages (layout : Layout) (v : Caller) (shard : ℕ) (rings : Option ℕ) (states : List PageState) : Type 0
  where
    pub stands : ViewIsValid layout v.view
    pub idle : (own_body v).hand ≡ Idle
    pub owned : (own_body v).owned ≡ Some shard
    pub bell : (own_body v).bell_cursor ≡ rings_at v shard rings
    pub few : length states ≡ pages_of v.view.shape
    pub pages : (p : ℕ) → p < length states → KeepsPage (get_or states p blank_state)
        (seen_page v (heap_page v (shard_page shard p)))

-- the slot is in no list of its page, and that page is in the shard
abbrev pub MayGain : ℕ → List PageState → Option SlotRef → Type 0
MayGain shard states None = Unit {0}
MayGain shard states (Some x) = (p : ℕ) × (p < length states) × (x.page ≡ shard * length states + p)
    × (x.slot < slot_places)
    × Misses x.slot ((get_or states p blank_state).lists.free ++ (get_or states p blank_state).lists.local)

-- the slot came to the lists of its page, whose number in the shard is returned
abbrev pub PushesGained : ℕ → Option SlotRef → List PageState → Option ℕ → List PageState → Type 0
PushesGained shard None old page new = (page ≡ None) × (new ≡ old)
PushesGained shard (Some x) old page new = (p : ℕ) × (page ≡ Some p) × (p < length old)
    × (x.page ≡ shard * length old + p) × (new ≡ slice_set old p (with_local (get_or old p blank_state) x.slot))
