-- What is kept of words and of owners' notes, besides the slots.
use Rattle.std.specs.Prelude.{ℕ, ◌-◌, ◌/◌, ◌≡◌, ◌<◌, ◌≤◌, ◌==◌, ◌&&◌, ◌||◌, true, false, List, Option, Some, None}
use Rattle.std.specs.Prelude.{slice_get}
use Rattle.sh_slots.specs.declared.hand.SlotRef.{SlotRef}
use Rattle.sh_core.specs.Words.{Words}
use Rattle.sh_word.specs.Fields.{fields_of}
use Rattle.sh_step.specs.Plans.{Plan, heap_pages}
use Rattle.sh_shape.specs.Classes.{class_count, width}
use Rattle.sh_slots.specs.Slots.{same_slot}
use Rattle.sh_step.specs.Collections.{total, if1, noted}
use Rattle.sh_step.specs.declared.body.Body.{Body}
use Rattle.sh_step.specs.Rows.{owned_by}
use Rattle.sh_core.specs.Lists.{PutLists, times}
use Rattle.sh_core.specs.Stacks.{Chains, slot_ref, tying, ties_of, cursor_at, ring_tying, ring_ties, bell_cursor_at}
use Rattle.sh_core.specs.Stacks.{bell_link, bell_head}
use Rattle.sh_core.specs.Bells.{Owned, Duty}
use Rattle.sh_core.specs.Worlds.{World}
use Rattle.sh_core.specs.Sums.{Sums}

-- generations in range, classes known, and a value no longer than its class's width
pub record Bounds (plan : Plan) (class : ℕ → ℕ) (state length : ℕ → ℕ → ℕ) : Type 0 where
  pub generations : (q s : ℕ) → (0 < (fields_of (state q s)).generation)
      × ((fields_of (state q s)).generation ≤ plan.keys.gen_max)
  pub classes : (q : ℕ) → (class q ≤ class_count) × (0 < class q → q < heap_pages plan)
  pub lengths : (q s : ℕ) → ((fields_of (state q s)).present || (fields_of (state q s)).marked) ≡ true
      → length q s ≤ width (class q - 1)

-- what an owner notes is about its own shard, and true
pub record OwnNotes (plan : Plan) (class : ℕ → ℕ) (owned : Option ℕ) (classes : List (ℕ × ℕ)) (mine : List SlotRef)
    (cursors : List (ℕ × ℕ)) (armed : List ℕ) (bell_cursor : Option ℕ) : Type 0 where
  pub mines : (x : SlotRef) → owned_by plan owned x.page ≡ false → total (λ y. if1 (same_slot x y)) mine ≡ 0
  pub points : (q s : ℕ) → owned_by plan owned q ≡ false → total (λ (c : ℕ × ℕ). if1 ((c.0 == q) && (c.1 == s))) cursors
      ≡ 0
  pub arms : (q : ℕ) → owned_by plan owned q ≡ false → times q armed ≡ 0
  pub bell : owned ≡ None → bell_cursor ≡ None
  pub notes : (q c : ℕ) → owned_by plan owned q ≡ true → noted q classes ≡ Some c → (class q ≡ c)
      × (q < heap_pages plan)

abbrev pub OwnNotesOf : Plan → (ℕ → ℕ) → Body → Type 0
OwnNotesOf plan class p = OwnNotes plan class p.owned p.classes p.mine p.cursors p.armed p.bell_cursor

-- what is kept of lists, bells, duties, owners
pub record ListsAgree (plan : Plan) (class head page_link bell owner : ℕ → ℕ) (link : ℕ → ℕ → ℕ) (ps : List Body)
    (l : PutLists) : Type 0 where
  pub stacks : Chains (λ q. head q / 2) link (λ q s. total (tying (slot_ref q s)) ps)
      (λ q s. total (ties_of (slot_ref q s)) ps) (λ q s. total (cursor_at q s) ps) l.stack l.chain
  pub bells : Chains (bell_head plan bell) (bell_link plan page_link) (λ n q. total (ring_tying plan n q) ps)
      (λ n q. total (ring_ties plan n q) ps) (λ n q. total (bell_cursor_at n q) ps) l.bells l.bell_chain
  pub duty : Duty plan head ps l
  pub owned : Owned owner ps
  pub own_notes : (a : ℕ) (p : Body) → slice_get ps a ≡ Some p → OwnNotesOf plan class p

abbrev pub ListsAgreeOf : Plan → Words → List Body → PutLists → Type 0
ListsAgreeOf plan w ps l = ListsAgree plan w.class_at w.head_at w.page_link_at w.bell_at w.owner_at w.link_at ps l

abbrev pub BoundsOf : Plan → Words → Type 0
BoundsOf plan w = Bounds plan w.class_at w.state_at w.length_at

-- all that holds
pub record Agreement (plan : Plan) (w : World) (l : PutLists) : Type 0 where
  pub sums : Sums plan w l
  pub lists : ListsAgreeOf plan w.words w.parts l
  pub bounds : BoundsOf plan w.words
