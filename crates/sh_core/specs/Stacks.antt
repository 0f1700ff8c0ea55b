-- How the words hold the stacks and chains: of slots on pages, and of pages on bells.
use Rattle.std.specs.Prelude.{ℕ, ◌+◌, ◌≡◌, ◌==◌, cond, not, ◌&&◌, List, [], ◌∷◌, Option, Some, None}
use Rattle.sh_slots.specs.declared.hand.Hand.TheVariants.{Tying, RingTying}
use Rattle.sh_slots.specs.declared.hand.SlotRef.{SlotRef}
use Rattle.sh_step.specs.Plans.{Plan, shard_of, over_heap}
use Rattle.sh_slots.specs.Slots.{same_slot}
use Rattle.sh_step.specs.Collections.{total, if1}
use Rattle.sh_step.specs.declared.body.Body.{Body}
use Rattle.sh_core.specs.Lists.{times}

abbrev pub slot_ref : ℕ → ℕ → SlotRef
slot_ref q s = record { page = q; slot = s }

-- the link word of the item above this list; `top` is the head word's number for it
abbrev pub link_to : List ℕ → ℕ
link_to [] = 1
link_to (s ∷ xs) = s + 2

abbrev pub top : List ℕ → ℕ
top [] = 0
top (s ∷ xs) = s + 1

abbrev pub first_is : List ℕ → ℕ → ℕ
first_is [] s = 0
first_is (t ∷ xs) s = if1 (t == s)

-- each item's link, stored in its word or owed by a pass, names the next
abbrev pub Chained : (ℕ → ℕ) → (ℕ → ℕ) → List ℕ → Type 0
Chained word owed [] = Unit {0}
Chained word owed (s ∷ xs) = (word s + owed s ≡ link_to xs) × Chained word owed xs

-- For each group: its head's number, its items' links, the links that passes owe, the number of passes that owe them,
-- and its cursors, together with the two lists
pub record Chains (head : ℕ → ℕ) (link owed tied cursor : ℕ → ℕ → ℕ) (stack chain : ℕ → List ℕ) : Type 0 where
  pub tops : (q : ℕ) → head q ≡ top (stack q)
  pub stacks : (q : ℕ) → Chained (link q) (owed q) (stack q)
  pub chains : (q : ℕ) → Chained (link q) (owed q) (chain q)
  -- an item in a list has its link or one pass that ties it; another item has neither
  pub ties : (q s : ℕ) → if1 (not (link q s == 0)) + tied q s ≡ times s (stack q) + times s (chain q)
  pub cursors : (q s : ℕ) → cursor q s ≡ first_is (chain q) s

-- the link that a pass still has to store at x, or 0
abbrev pub tying : SlotRef → Body → ℕ
tying x p = elim (p.hand) [ Tying y l r ↦ cond (same_slot x y) l 0 | _ ↦ 0 ]

abbrev pub ties_of : SlotRef → Body → ℕ
ties_of x p = elim (p.hand) [ Tying y l r ↦ if1 (same_slot x y) | _ ↦ 0 ]

abbrev pub cursor_at : ℕ → ℕ → Body → ℕ
cursor_at q s p = total (λ c. if1 ((c.0 == q) && (c.1 == s))) p.cursors

-- the same for pages on the bell of shard n
abbrev pub ring_tying : Plan → ℕ → ℕ → Body → ℕ
ring_tying plan n q p = elim (p.hand) [
  | RingTying k l ↦ cond ((n == shard_of plan k) && (q == k)) (over_heap plan n 2 l) 0
  | _ ↦ 0
]

abbrev pub ring_ties : Plan → ℕ → ℕ → Body → ℕ
ring_ties plan n q p = elim (p.hand) [ RingTying k l ↦ if1 ((n == shard_of plan k) && (q == k)) | _ ↦ 0 ]

abbrev pub is_at : Option ℕ → ℕ → ℕ
is_at (Some j) q = if1 (j == q)
is_at None q = 0

abbrev pub bell_cursor_at : ℕ → ℕ → Body → ℕ
bell_cursor_at n q p = elim (p.owned) [ Some k ↦ cond (k == n) (is_at p.bell_cursor q) 0 | None ↦ 0 ]

abbrev pub bell_link : Plan → (ℕ → ℕ) → ℕ → ℕ → ℕ
bell_link plan f n q = cond (n == shard_of plan q) (over_heap plan n 2 (f q)) 0

-- what the bell of shard n names
abbrev pub bell_head : Plan → (ℕ → ℕ) → ℕ → ℕ
bell_head plan f n = over_heap plan n 1 (f n)
