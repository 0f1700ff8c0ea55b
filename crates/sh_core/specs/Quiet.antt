-- A quiet heap, in which no pass has begun anything: the links and cursors agree with the put lists, and no empty slot
-- is lost.
use Rattle.std.specs.Prelude.{ℕ, zero, suc, ◌+◌, ◌-◌, ◌/◌, ◌≡◌, ◌<◌, ◌≤◌, ◌==◌, ◌||◌, false, cond, List, [], ◌∷◌}
use Rattle.std.specs.Prelude.{length}
use Rattle.std.specs.Prelude.{◌++◌, Option, Some, None, option_map, slice_get, replicate}
use Rattle.sh_slots.specs.declared.hand.Hand.TheVariants.{Idle}
use Rattle.sh_slots.specs.declared.hand.SlotRef.{SlotRef}
use Rattle.sh_shape.specs.Classes.{slots}
use Rattle.sh_key.specs.Layout.{Layout, IsLayout}
use Rattle.sh_shape.specs.Shape.{Numbers, IsShape, Fits}
use Rattle.sh_step.specs.declared.action.Action.TheVariants.{Take, Follow}
use Rattle.sh_step.specs.declared.action.Event.{Event}
use Rattle.sh_step.specs.declared.body.Body.{Body}
use Rattle.sh_step.specs.declared.moves.Move.TheVariants as move
use Rattle.sh_step.specs.Conditions.{May, page_name}
use Rattle.sh_step.specs.Collections.{total}
use Rattle.sh_step.specs.Plans.{Plan, plan_of, shard_of}
use Rattle.sh_core.specs.Worlds.{World, run}
use Rattle.sh_core.specs.Lists.{PutLists, times, state_of, lists_of, accounts}
use Rattle.sh_core.specs.Stacks.{top, first_is, cursor_at}
use Rattle.sh_core.specs.Refines.{mine, Always}

-- no pass has begun anything
abbrev pub Quiet : World → Type 0
Quiet w = (a : ℕ) (p : Body) → slice_get w.parts a ≡ Some p → p.hand ≡ Idle

-- The items from the one that a top names to the end, along the links. None if a link is not written, or if there are
-- more than n items
unfoldable pub walked : (ℕ → ℕ) → (n top : ℕ) → Option (List ℕ)
walked link n zero = Some []
walked link zero (suc s) = None
walked link (suc n) (suc s) = cond (link s == 0) None (option_map (λ xs. s ∷ xs) (walked link n (link s - 1)))

-- The put lists come from the run, and n is at least the list's length. A walk of at most n items along a page's links
-- gives the stack list from the head word, and the chain list from that list's first slot. The parts of the passes have
-- one cursor of the page at the chain list's first slot, and none at another slot
pub record WordsLead (w : World) (l : PutLists) : Type 0 where
  pub stack : (q n : ℕ) → length (l.stack q) ≤ n
      → walked (w.words.link_at q) n (w.words.head_at q / 2) ≡ Some (l.stack q)
  pub chain : (q n : ℕ) → length (l.chain q) ≤ n → walked (w.words.link_at q) n (top (l.chain q)) ≡ Some (l.chain q)
  pub cursor : (q s : ℕ) → total (cursor_at q s) w.parts ≡ first_is (l.chain q) s

-- the slot is one of its page's class, and empty
pub record IsEmptySlot (w : World) (x : SlotRef) : Type 0 where
  pub class : ℕ
  pub classed : w.words.class_at x.page ≡ class + 1
  pub below : x.slot < slots class
  pub empty : ((state_of w x).present || (state_of w x).marked) ≡ false

-- each empty slot is in one of these, and there once: the `mine` of a pass's part, or its page's stack or chain list
abbrev pub NoneLost : World → PutLists → Type 0
NoneLost w l = (x : SlotRef) → IsEmptySlot w x
    → mine w x + times x.slot (l.stack x.page) + times x.slot (l.chain x.page) ≡ 1

-- each empty slot of a shard without an owner is in its page's stack list, once
abbrev pub LeftIsOnStacks : Plan → World → PutLists → Type 0
LeftIsOnStacks plan w l = (x : SlotRef) → IsEmptySlot w x → w.words.owner_at (shard_of plan x.page) ≡ 0
    → times x.slot (l.stack x.page) ≡ 1

pub record LosesNothing (plan : Plan) (w : World) (l : PutLists) : Type 0 where
  pub lead : WordsLead w l
  pub none_lost : NoneLost w l
  pub left : LeftIsOnStacks plan w l

-- this holds after every list of events that leaves no pass with something begun
abbrev pub QuietLosesNothing : Type 0
QuietLosesNothing = Always (λ plan w l. Quiet w → LosesNothing plan w l)

-- ---- collecting

-- pass a takes what was put on page q, and follows n links
abbrev pub collecting : Plan → (a q n : ℕ) → List Event
collecting plan a q n = record { pass = a; action = Take (page_name plan q) }
    ∷ replicate n (record { pass = a; action = Follow (page_name plan q) })

-- no pass has begun anything, nothing that was put on page q is left there, and a pass's `mine` has each of its empty
-- slots once
pub record NothingQueued (w : World) (l : PutLists) (q : ℕ) : Type 0 where
  pub quiet : Quiet w
  pub stack : l.stack q ≡ []
  pub chain : l.chain q ≡ []
  pub queued : (accounts w l q).queued ≡ 0
  pub mine : (x : SlotRef) → x.page ≡ q → IsEmptySlot w x → mine w x ≡ 1

-- If no pass has begun anything, a pass that may take a page's stack collects all of it. It does one follow for each
-- slot of the stack list, and each follow meets a written link
abbrev pub CollectingFindsAll : Type 0
CollectingFindsAll = (layout : Layout) (shape : Numbers) → IsLayout layout → IsShape shape → Fits layout shape
    → (es : List Event) → let plan = plan_of layout shape in Quiet (run plan es)
    → (a q : ℕ) (p : Body) → slice_get (run plan es).parts a ≡ Some p → May plan p (move.Take q)
    → let more = es ++ collecting plan a q (length ((lists_of plan es).stack q)) in
    NothingQueued (run plan more) (lists_of plan more) q
