-- How many slots are out of their owners' reach: bounds that hold whoever stalls.
use Rattle.std.specs.Prelude.{ℕ, zero, suc, ◌+◌, ◌*◌, ◌<◌, ◌≤◌, ◌==◌, cond, not, List, [], ◌∷◌, length}
use Rattle.sh_step.specs.declared.body.Body.{Body}
use Rattle.sh_step.specs.Collections.{total, if1}
use Rattle.sh_slots.specs.declared.hand.Hand.TheVariants.{Tying, RingTying}
use Rattle.sh_core.specs.Lists.{PutLists, accounts, slots_under}
use Rattle.sh_step.specs.Plans.{Plan, heap_pages, shard_of}
use Rattle.sh_step.specs.Rows.{idle}
use Rattle.sh_core.specs.Worlds.{World}

-- f of each number below n, added up
unfoldable pub sum_below : (ℕ → ℕ) → ℕ → ℕ
sum_below f zero = 0
sum_below f (suc n) = sum_below f n + f n

-- by the accounts of its pages, how many slots of the heap are marked: removed, and not empty yet
abbrev pub marked_slots : Plan → World → PutLists → ℕ
marked_slots plan w l = sum_below (λ q. (accounts w l q).marked) (heap_pages plan)

-- how many are in hands: empty, and in no list
abbrev pub slots_in_hands : Plan → World → PutLists → ℕ
slots_in_hands plan w l = sum_below (λ q. (accounts w l q).hand) (heap_pages plan)

-- how many holds all passes have
abbrev pub all_holds : World → ℕ
all_holds w = total (λ (p : Body). length p.holds) w.parts

-- how many passes have begun something
abbrev pub busy_passes : World → ℕ
busy_passes w = total (λ (p : Body). if1 (not (idle p))) w.parts

-- Marked slots and slots in hands are together at most the holds and the passes that have begun something, and so at
-- most 17 for each pass. Those in hands are at most the passes that have begun something
pub record GarbageIsFew (plan : Plan) (w : World) (l : PutLists) : Type 0 where
  pub together : marked_slots plan w l + slots_in_hands plan w l ≤ all_holds w + busy_passes w
  pub hands : slots_in_hands plan w l ≤ busy_passes w
  pub few : marked_slots plan w l + slots_in_hands plan w l ≤ 17 * plan.passes

-- how many items of a list are cut off from an owner that follows the links: all from the first unwritten link on
unfoldable pub cut_off : (ℕ → ℕ) → List ℕ → ℕ
cut_off link [] = 0
cut_off link (s ∷ xs) = cond (link s == 0) (length (s ∷ xs)) (cut_off link xs)

-- how many queued slots of page q are cut off, and how many pages on the bell of shard n
abbrev pub slots_cut_off : World → PutLists → ℕ → ℕ
slots_cut_off w l q = cut_off (w.words.link_at q) (l.stack q) + cut_off (w.words.link_at q) (l.chain q)

abbrev pub pages_cut_off : World → PutLists → ℕ → ℕ
pages_cut_off w l n = cut_off w.words.page_link_at (l.bells n) + cut_off w.words.page_link_at (l.bell_chain n)

-- 1 if the pass is between Put and Tie on page q, and if it is between Ring and its tie for shard n
abbrev pub ties_on : ℕ → Body → ℕ
ties_on q p = elim (p.hand) [ Tying x l r ↦ if1 (x.page == q) | _ ↦ 0 ]

abbrev pub rings_for : Plan → ℕ → Body → ℕ
rings_for plan n p = elim (p.hand) [ RingTying q l ↦ if1 (shard_of plan q == n) | _ ↦ 0 ]

-- At most the slots of a page are cut off there, and only if a pass is between Put and Tie on the page. At most the
-- pages of a shard are cut off on its bell, and only if a pass is between Ring and its tie. In the heap at most 64
-- slots for each pass are marked, in hands or cut off
pub record FewAreCutOff (plan : Plan) (w : World) (l : PutLists) : Type 0 where
  pub slots : (q : ℕ) → slots_cut_off w l q ≤ slots_under (w.words.class_at q)
  pub by_ties : (q : ℕ) → 0 < slots_cut_off w l q → 0 < total (ties_on q) w.parts
  pub pages : (n : ℕ) → pages_cut_off w l n ≤ plan.pages
  pub by_rings : (n : ℕ) → 0 < pages_cut_off w l n → 0 < total (rings_for plan n) w.parts
  pub together : marked_slots plan w l + slots_in_hands plan w l + sum_below (slots_cut_off w l) (heap_pages plan)
      ≤ all_holds w + 48 * busy_passes w
  pub few : marked_slots plan w l + slots_in_hands plan w l + sum_below (slots_cut_off w l) (heap_pages plan)
      ≤ 64 * plan.passes
