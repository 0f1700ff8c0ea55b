-- What the lines of a program lead to, in an order of them.
use Rattle.std.specs.Prelude.{ℕ, ◌≡◌, ◌≤◌, ◌<◌, ◌==◌, ◌&&◌, cond, Bool, true, false, List, [], ◌++◌, Some, None}
use Rattle.std.specs.Prelude.{length, map, Ok, slice_get, vec_items}
use Rattle.std.specs.List.{All, filter, range_with_len}
use Rattle.std.specs.Rc.{rc_value}
use Rattle.sh_key.specs.Layout.{Layout, IsLayout}
use Rattle.sh_shape.specs.Shape.{IsShape, Fits}
use Rattle.sh_step.specs.declared.action.Event.{Event}
use Rattle.sh_step.specs.declared.body.Body.{Body}
use Rattle.sh_step.specs.Moves.{is_enabled}
use Rattle.sh_step.specs.Plans.{Plan, plan_of}
use Rattle.sh_core.specs.Kept.{KeptWorld, HoldsWords, RunsWorld}
use Rattle.sh_core.specs.Worlds.{World, run}
use Rattle.script_output.specs.AccountLines.{accounts_after, accounts_text}
use Rattle.script_orders.specs.declared.changes.Change.{Change}
use Rattle.script_orders.specs.declared.found.Program.{Program}
use Rattle.script_orders.specs.declared.found.Found.{Found}
use Rattle.script_orders.specs.declared.found.Explored.{Explored}
use Rattle.script_orders.specs.declared.found.Explored.TheVariants.{Whole, Cut}
use Rattle.script_orders.specs.declared.state.State.{State}
use Rattle.script_orders.specs.Changes.{HasChanges}
use Rattle.script_orders.specs.Lanes.{Did, did}
use Rattle.script_orders.specs.Orders.{is_of, lines_within, IsOfSome, IsOrder, events_of, replies_from}
use Rattle.script_orders.specs.Seen.{DoesSteps}

-- ---- a program: what is done first, and lines that are done in some order

abbrev pub plan_in : Layout → Program → Plan
plan_in layout p = plan_of layout p.shape

-- the world as the lines begin
abbrev pub world_before : Layout → Program → World
world_before layout p = run (plan_in layout p) p.before.now

-- what is done by an order of lines
abbrev pub done_by : Program → List ℕ → List Event
done_by p order = p.before.now ++ events_of p.lines.now order

-- the world after it
abbrev pub world_by : Layout → Program → List ℕ → World
world_by layout p order = run (plan_in layout p) (done_by p order)

-- what a pass is replied in the lines of an order
abbrev pub replies_by : Layout → Program → List ℕ → (pass : ℕ) → List ℕ
replies_by layout p order pass =
    replies_from (plan_in layout p) (world_before layout p) (events_of p.lines.now order) pass

-- what the pages have after it
abbrev pub pages_by : Layout → Program → List ℕ → List ℕ
pages_by layout p order = accounts_text p.shape (accounts_after (plan_in layout p) (done_by p order))

-- the shape fits the layout, so that there is such a heap
pub record IsHeap (layout : Layout) (p : Program) : Type 0 where
  pub is_layout : IsLayout layout
  pub is_shape : IsShape p.shape
  pub fits : Fits layout p.shape

-- these are the words as the lines begin, and the world is the one after the order
pub record HasPlayed (layout : Layout) (p : Program) (opening order : List ℕ) (world : KeptWorld) : Type 0 where
  pub heap : IsHeap layout p
  pub begins : HoldsWords p.shape opening (world_before layout p).words
  pub plays : RunsWorld layout p.shape (done_by p order) (Ok world)

-- ---- the next line of a pass

-- the line of this number is the pass's, and its condition holds of the pass's part
abbrev pub is_due : Plan → List Body → List Event → (pass number : ℕ) → Bool
is_due plan parts lines pass number = elim (slice_get lines number) [
  | Some e ↦ (e.pass == pass) && (elim (slice_get parts pass) [
    | Some part ↦ is_enabled plan part e.action
    | None ↦ false
  ])
  | None ↦ false
]

-- it is the first one from `behind` on that is due
pub record IsNext (plan : Plan) (parts : List Body) (lines : List Event) (pass behind number : ℕ) : Type 0 where
  pub due : is_due plan parts lines pass number ≡ true
  pub after : behind ≤ number
  pub first : (n : ℕ) → behind ≤ n → n < number → is_due plan parts lines pass n ≡ false

-- none is due from `behind` on
abbrev pub HasNoNext : Plan → List Body → List Event → (pass behind : ℕ) → Type 0
HasNoNext plan parts lines pass behind = (n : ℕ) → behind ≤ n → is_due plan parts lines pass n ≡ false

-- ---- states

-- in this order the pass did its lines before `behind`, was replied this, and its story led to the part that it has
pub record HasDone (layout : Layout) (p : Program) (order : List ℕ) (pass : ℕ) (d : Did) : Type 0 where
  pub lines : filter (is_of p.lines.now pass) order ≡ lines_within p.lines.now pass 0 d.behind
  pub within : d.behind ≤ length p.lines.now
  pub replies : d.replies ≡ replies_by layout p order pass
  pub part : (start : Body) → slice_get (world_before layout p).parts pass ≡ Some start → (now : Body)
      × (slice_get (world_by layout p order).parts pass ≡ Some now)
      × DoesSteps (plan_in layout p) p.lines.now d.story start now

-- the order changes these words, and each pass did this in it
pub record LeadsTo (layout : Layout) (p : Program) (order : List ℕ) (changes : List Change) (lanes : List Did) : Type
    0 where
  pub only : All (IsOfSome p.lines.now p.shape.passes) order
  pub changed : HasChanges p.shape changes (world_before layout p).words (world_by layout p order).words
  pub count : length lanes ≡ p.shape.passes
  pub each : (pass : ℕ) (d : Did) → slice_get lanes pass ≡ Some d → HasDone layout p order pass d

abbrev pub lanes_of : State → List Did
lanes_of s = map (λ lane. did (rc_value lane)) s.lanes.items

-- its order leads to it
abbrev pub IsReached : Layout → Program → State → Type 0
IsReached layout p s = LeadsTo layout p s.order.items s.changes.items (lanes_of s)

-- the pass has no line left that is due
abbrev pub Rests : Layout → Program → State → (pass : ℕ) → Type 0
Rests layout p s pass = (d : Did) → slice_get (lanes_of s) pass ≡ Some d
    → HasNoNext (plan_in layout p) (world_by layout p s.order.items).parts p.lines.now pass d.behind

-- a world of the state: it has the state's changes and parts
pub record IsWorldOf (layout : Layout) (p : Program) (s : State) (w : World) : Type 0 where
  pub changed : HasChanges p.shape s.changes.items (world_before layout p).words w.words
  pub parts : w.parts ≡ (world_by layout p s.order.items).parts

-- ---- outcomes

-- what the passes are replied in an order
abbrev pub all_replies_by : Layout → Program → List ℕ → List (List ℕ)
all_replies_by layout p order = map (replies_by layout p order) (range_with_len 0 p.shape.passes)

-- what the pages have after it, if that belongs to an outcome
abbrev pub pages_asked : Layout → Program → List ℕ → List ℕ
pages_asked layout p order = cond p.accounts (pages_by layout p order) []

-- the witness is an order of all lines, and leads to the outcome
pub record IsOutcome (layout : Layout) (p : Program) (f : Found) : Type 0 where
  pub order : IsOrder p.lines.now p.shape.passes f.witness.items
  pub replies : map vec_items f.replies.items ≡ all_replies_by layout p f.witness.items
  pub pages : f.pages.items ≡ pages_asked layout p f.witness.items

abbrev pub AreOutcomes : Layout → Program → Explored → Type 0
AreOutcomes layout p (Whole whole) = All (IsOutcome layout p) whole.found.items
AreOutcomes layout p (Cut cut) = Unit {0}

-- ---- no outcome is missing

-- one of the outcomes has these replies and pages
abbrev pub Has : List Found → (replies : List (List ℕ)) → (pages : List ℕ) → Type 0
Has found replies pages = (place : ℕ) × (f : Found) × (slice_get found place ≡ Some f)
    × (map vec_items f.replies.items ≡ replies) × (f.pages.items ≡ pages)

-- one of the outcomes is that of the order
abbrev pub HasOutcome : Layout → Program → List Found → (order : List ℕ) → Type 0
HasOutcome layout p found order = Has found (all_replies_by layout p order) (pages_asked layout p order)

-- every order of all lines, done to its end, has one of the outcomes
abbrev pub IsComplete : Layout → Program → Explored → Type 0
IsComplete layout p (Whole whole) =
    (order : List ℕ) → IsOrder p.lines.now p.shape.passes order → HasOutcome layout p whole.found.items order
IsComplete layout p (Cut cut) = Unit {0}
