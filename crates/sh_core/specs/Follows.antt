-- What follows from clauses of the theorem, each of a world and of the lists of what was put.
use Rattle.std.specs.Prelude.{ℕ, ◌+◌, ◌-◌, ◌*◌, ◌≡◌, ◌<◌, ◌⊎◌, List, [], ◌∷◌, Some, slice_get}
use Rattle.sh_shape.specs.Classes.{width}
use Rattle.sh_shape.specs.Places.{payload_words}
use Rattle.sh_slots.specs.declared.hand.KeyRef.{KeyRef}
use Rattle.sh_slots.specs.declared.hand.SlotRef.{SlotRef}
use Rattle.sh_step.specs.Collections.{total, noted}
use Rattle.sh_step.specs.declared.body.Body.{Body}
use Rattle.sh_step.specs.Plans.{Plan, heap_pages, shard_of}
use Rattle.sh_core.specs.Bells.{armed_at}
use Rattle.sh_core.specs.Lists.{PutLists, accounts, slots_under, times}
use Rattle.sh_core.specs.Refines.{mine}
use Rattle.sh_core.specs.Stacks.{slot_ref, link_to, ties_of, ring_ties, bell_link, cursor_at}
use Rattle.sh_core.specs.Worlds.{World}

-- the accounts of a page add up to the slots of its class, and those of a blank page to 0
abbrev pub Filled : World → PutLists → Type 0
Filled w l = (q : ℕ) → let a = accounts w l q in
    a.live + (a.marked + (a.retired + (a.mine + (a.hand + a.queued)))) ≡ slots_under (w.words.class_at q)

-- a payload word that a pass may read of a key is one of the key's value, in its page
abbrev pub ReadsWithin : Plan → World → Type 0
ReadsWithin plan w = (a : ℕ) (p : Body) (k : ℕ) (n : KeyRef) (c m i : ℕ) → slice_get w.parts a ≡ Some p
    → plan.keys.unpack k ≡ Some n → noted k p.class_words ≡ Some c → noted k p.lengths ≡ Some m → i < m →
    (c ≡ w.words.class_at n.page) × (m ≡ w.words.length_at n.page n.slot)
    × (n.slot * width (c - 1) + i < payload_words)

-- a shard without an owner has no cursor, no armed page and no slot in a pass's `mine`
abbrev pub LeftEmpty : Plan → World → Type 0
LeftEmpty plan w = (n : ℕ) → w.words.owner_at n ≡ 0
    → ((x : SlotRef) → shard_of plan x.page ≡ n → mine w x ≡ 0)
    × ((q s : ℕ) → shard_of plan q ≡ n → total (cursor_at q s) w.parts ≡ 0)
    × ((q : ℕ) → shard_of plan q ≡ n → total (armed_at q) w.parts ≡ 0)

-- Along a list, each item's link is 0 and exactly one pass ties it, or it names the next item. The last item's link
-- names the end
abbrev pub LinksOn : (link tied : ℕ → ℕ) → List ℕ → Type 0
LinksOn link tied [] = Unit {0}
LinksOn link tied (s ∷ xs) =
    (((link s ≡ 0) × (tied s ≡ 1)) ⊎ ((link s ≡ link_to xs) × (tied s ≡ 0))) × LinksOn link tied xs

-- the links are so along each page's stack and chain of slots, and along each shard's bell and bell chain of pages
pub record EachLinked (plan : Plan) (w : World) (l : PutLists) : Type 0 where
  pub stack : (q : ℕ) → LinksOn (w.words.link_at q) (λ s. total (ties_of (slot_ref q s)) w.parts) (l.stack q)
  pub chain : (q : ℕ) → LinksOn (w.words.link_at q) (λ s. total (ties_of (slot_ref q s)) w.parts) (l.chain q)
  pub bell : (n : ℕ) → LinksOn (bell_link plan w.words.page_link_at n) (λ q. total (ring_ties plan n q) w.parts)
      (l.bells n)
  pub bell_chain : (n : ℕ) → LinksOn (bell_link plan w.words.page_link_at n) (λ q. total (ring_ties plan n q) w.parts)
      (l.bell_chain n)
  pub home_pages : (n q : ℕ) → 0 < times q (l.bells n) + times q (l.bell_chain n) → (shard_of plan q ≡ n)
      × (q < heap_pages plan)
