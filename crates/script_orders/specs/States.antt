-- States of a walk over orders: which two are alike, which lines are left, and what a pass's next line makes of one.
use Rattle.std.specs.Prelude.{ℕ, ◌≡◌, ◌+◌, ◌-◌, ◌^◌, min, ◌++◌, List, [], ◌∷◌, Some, None, length, slice_get, slice_set}
use Rattle.std.specs.List.{flat_map, range_with_len}
use Rattle.sh_key.specs.Layout.{Layout}
use Rattle.sh_shape.specs.declared.places.Place.{Place}
use Rattle.sh_shape.specs.Places.{IsPlace}
use Rattle.sh_step.specs.declared.action.Event.{Event}
use Rattle.sh_core.specs.Words.{read}
use Rattle.script_orders.specs.declared.changes.Change.{Change}
use Rattle.script_orders.specs.declared.found.Program.{Program}
use Rattle.script_orders.specs.declared.state.State.{State}
use Rattle.script_orders.specs.Lanes.{Did}
use Rattle.script_orders.specs.Orders.{lines_within}
use Rattle.script_orders.specs.Reached.{world_by, lanes_of}

-- each pass did the same, found the same and was replied the same, and the same words changed
pub record AreAlike (s t : State) : Type 0 where
  pub lanes : lanes_of s ≡ lanes_of t
  pub changes : s.changes.items ≡ t.changes.items

-- each pass did the same, found the same and was replied the same, and the words are the same
pub record HaveSame (layout : Layout) (p : Program) (s t : State) : Type 0 where
  pub lanes : lanes_of s ≡ lanes_of t
  pub words : (place : Place) → IsPlace p.shape place → read (world_by layout p s.order.items).words place
      ≡ read (world_by layout p t.order.items).words place

-- The pass did one more line, and so has done this; the lines before it that were not done are skipped. The changes are
-- those that it left
pub record Follows (lines : List Event) (pass : ℕ) (new : Did) (changes : List Change) (s t : State) : Type 0 where
  pub order : (old : Did) → slice_get (lanes_of s) pass ≡ Some old
      → t.order.items ≡ s.order.items ++ lines_within lines pass old.behind new.behind
  pub passes : t.passes.items ≡ s.passes.items ++ pass ∷ []
  pub lanes : lanes_of t ≡ slice_set (lanes_of s) pass new
  pub changes_are : t.changes.items ≡ changes
  pub orders : t.orders ≡ s.orders

-- the lines that a pass has left
abbrev pub left_of : List Event → List Did → (pass : ℕ) → List ℕ
left_of lines lanes pass =
    elim (slice_get lanes pass) [ Some d ↦ lines_within lines pass d.behind (length lines) | None ↦ [] ]

-- the lines that these passes have left, those of one pass after those of the other
abbrev pub all_left : List Event → List Did → (passes : ℕ) → List ℕ
all_left lines lanes passes = flat_map (left_of lines lanes) (range_with_len 0 passes)

-- the state at this place is alike
abbrev pub IsAlikeAt : List State → (place : ℕ) → State → Type 0
IsAlikeAt level place t = (u : State) × (slice_get level place ≡ Some u) × AreAlike u t

-- a state of these is alike
abbrev pub HasAlike : List State → State → Type 0
HasAlike level t = (place : ℕ) × (u : State) × (slice_get level place ≡ Some u) × AreAlike u t

-- no two of them are alike
abbrev pub AllDiffer : List State → Type 0
AllDiffer level =
    (i j : ℕ) (s t : State) → slice_get level i ≡ Some s → slice_get level j ≡ Some t → AreAlike s t → i ≡ j

-- a state with the orders of another too
pub record WithOrders (s t u : State) : Type 0 where
  pub order : u.order ≡ s.order
  pub passes : u.passes ≡ s.passes
  pub lanes : u.lanes ≡ s.lanes
  pub changes : u.changes ≡ s.changes
  pub orders : u.orders.count ≡ min (s.orders.count + t.orders.count) (2 ^ 128 - 1)

-- a state is added to others: its orders to those of a state that is alike, or else, if none is, the state itself
pub data Added (old : List State) (s : State) (new : List State) : Type 0 where
  merged : (place : ℕ) (there both : State) → slice_get old place ≡ Some there → AreAlike there s
      → WithOrders there s both → new ≡ slice_set old place both → Added old s new
  pushed : ¬ HasAlike old s → new ≡ old ++ s ∷ [] → Added old s new
