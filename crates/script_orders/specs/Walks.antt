-- How a state of one level is followed in the next one.
use Rattle.std.specs.Prelude.{ℕ, ◌≡◌, ◌+◌, ◌-◌, ◌*◌, ◌^◌, ◌++◌, ◌∷◌, [], ◌<◌, ◌≤◌, ◌⊎◌, ◌&&◌, Bool, true, false, cond}
use Rattle.std.specs.Prelude.{List, Some, length, map, min, slice_get, slice_set, vec_items}
use Rattle.std.specs.Cmp.Lexicographic.{pointwise}
use Rattle.std.specs.List.{filter, flat_map, range_with_len, sum_by}
use Rattle.std.specs.Str.{bytes_eq}
use Rattle.sh_key.specs.Layout.{Layout}
use Rattle.sh_step.specs.declared.action.Event.{Event}
use Rattle.sh_core.specs.Outcomes.{outcome_of}
use Rattle.sh_core.specs.Worlds.{World, step}
use Rattle.script_orders.specs.declared.found.Found.{Found}
use Rattle.script_orders.specs.declared.found.Program.{Program}
use Rattle.script_orders.specs.declared.state.State.{State}
use Rattle.script_orders.specs.Lanes.{Did, and_then}
use Rattle.script_orders.specs.Orders.{is_of, lines_within, reply_line}
use Rattle.script_orders.specs.Reached.{plan_in, world_by, replies_by, is_due, IsNext, lanes_of, IsReached, IsWorldOf}
use Rattle.script_orders.specs.Reached.{Rests, pages_asked, Has, HasOutcome}
use Rattle.script_orders.specs.States.{HasAlike}
use Rattle.script_orders.specs.Steps.{behind_by, next_step, may_follow, is_empty}
use Rattle.script_orders.specs.Weights.{capped, weigh, Pairs}

-- The pass does its next line in the first state, and then the second one is reached. In each world of the first state
-- the line is replied the same, and leads to a world of the second
pub record GoesTo (layout : Layout) (p : Program) (pass : ℕ) (s t : State) : Type 0 where
  pub lane : Did
  pub number : ℕ
  pub seen : ℕ
  pub event : Event
  pub at : slice_get (lanes_of s) pass ≡ Some lane
  pub next : IsNext (plan_in layout p) (world_by layout p s.order.items).parts p.lines.now pass lane.behind number
  pub there : slice_get p.lines.now number ≡ Some event
  pub reached : IsReached layout p t
  pub order : t.order.items ≡ s.order.items ++ lines_within p.lines.now pass lane.behind (number + 1)
  pub lanes : lanes_of t ≡ slice_set (lanes_of s) pass (and_then lane number seen
      (reply_line event (outcome_of (plan_in layout p) (world_by layout p s.order.items) event)))
  pub orders : t.orders ≡ s.orders
  pub alike : (v : World) → IsWorldOf layout p s v → (outcome_of (plan_in layout p) v event
      ≡ outcome_of (plan_in layout p) (world_by layout p s.order.items) event)
      × IsWorldOf layout p t (step (plan_in layout p) v event)

-- the pass rests in the state, or the next level has what it goes to
abbrev pub IsFollowed : Layout → Program → List State → State → (pass : ℕ) → Type 0
IsFollowed layout p next s pass = Rests layout p s pass ⊎ ((t : State) × GoesTo layout p pass s t × HasAlike next t)

-- ---- orders of which a level has a state

-- In the order so far the pass was replied what it was replied in the state. It came to the line `upto`: it did no line
-- from `behind` on, and none of them is due
pub record HasPassed (layout : Layout) (p : Program) (order : List ℕ) (pass : ℕ) (d : Did) : Type 0 where
  pub upto : ℕ
  pub lines : filter (is_of p.lines.now pass) order ≡ lines_within p.lines.now pass 0 upto
  pub within : upto ≤ length p.lines.now
  pub behind : d.behind ≤ upto
  pub skips : (n : ℕ) → d.behind ≤ n → n < upto
      → is_due (plan_in layout p) (world_by layout p order).parts p.lines.now pass n ≡ false
  pub replies : d.replies ≡ replies_by layout p order pass

-- the order so far leads to the state, or to one that is alike
pub record ComesTo (layout : Layout) (p : Program) (order : List ℕ) (s : State) : Type 0 where
  pub world : IsWorldOf layout p s (world_by layout p order)
  pub each : (pass : ℕ) (d : Did) → slice_get (lanes_of s) pass ≡ Some d → HasPassed layout p order pass d

-- the level has the state to which the order comes once the lines `begun` of it are done
abbrev pub GoesOn : Layout → Program → List State → (order : List ℕ) → Type 0
GoesOn layout p level order = (begun : List ℕ) × (rest : List ℕ) × (order ≡ begun ++ rest) × (place : ℕ) × (s : State)
    × (slice_get level place ≡ Some s) × ComesTo layout p begun s

-- the order goes on from the level, or its outcome was found
abbrev pub IsCovered : Layout → Program → List State → List Found → (order : List ℕ) → Type 0
IsCovered layout p level found order = GoesOn layout p level order ⊎ HasOutcome layout p found order

-- the outcome of the state was found
abbrev pub HasEnd : Layout → Program → List Found → State → Type 0
HasEnd layout p found s = Has found (map (λ d. d.replies) (lanes_of s)) (pages_asked layout p s.order.items)

-- they are one outcome: each pass is replied the same, and the pages have the same
pub record IsSame (f g : Found) : Type 0 where
  pub replies : map vec_items f.replies.items ≡ map vec_items g.replies.items
  pub pages : f.pages.items ≡ g.pages.items

-- what was found is still there
abbrev pub KeepsFound : (old new : List Found) → Type 0
KeepsFound old new = (replies : List (List ℕ)) (pages : List ℕ) → Has old replies pages → Has new replies pages

-- no pass has a line left that is due
abbrev pub AllRest : Layout → Program → State → Type 0
AllRest layout p s = (pass : ℕ) → pass < p.shape.passes → Rests layout p s pass

-- ---- orders of steps of which a level has the state

-- in these steps the pass came as far, and was replied the same
pub record HasStepped (layout : Layout) (p : Program) (steps : List ℕ) (pass : ℕ) (d : Did) : Type 0 where
  pub behind : d.behind ≡ behind_by p.lines.now steps pass
  pub replies : d.replies ≡ replies_by layout p steps pass

-- the steps lead to the state, or to one that is alike
pub record StepsTo (layout : Layout) (p : Program) (steps : List ℕ) (s : State) : Type 0 where
  pub world : IsWorldOf layout p s (world_by layout p steps)
  pub each : (pass : ℕ) (d : Did) → slice_get (lanes_of s) pass ≡ Some d → HasStepped layout p steps pass d

-- they lead to the state at this place
abbrev pub IsAt : Layout → Program → List State → (steps : List ℕ) → (place : ℕ) → Type 0
IsAt layout p level steps place = (s : State) × (slice_get level place ≡ Some s) × StepsTo layout p steps s

-- the number of orders of each state
abbrev pub counts_of : List State → List ℕ
counts_of level = map (λ s. s.orders.count) level

-- Steps of these passes lead from the state to these places of the next level, and the orders of the state are counted
-- at each of them
pub record Goes (layout : Layout) (p : Program) (passes : ℕ) (old new : List State) (s : State) : Type 0 where
  pub places : List ℕ
  pub lands : (steps : List ℕ) → StepsTo layout p steps s
      → Pairs (λ n place. IsAt layout p new (steps ++ n ∷ []) place)
      (flat_map (next_step layout p steps) (range_with_len 0 passes)) places
  pub weighs : (w : ℕ → ℕ) → capped (weigh (counts_of new) w)
      ≡ capped (weigh (counts_of old) w + s.orders.count * sum_by w places)
  pub stays : (steps : List ℕ) (place : ℕ) → IsAt layout p old steps place → IsAt layout p new steps place

-- the same, and the state goes on exactly if there are such places
pub record GoesFrom (layout : Layout) (p : Program) (passes : ℕ) (old new : List State) (s : State) (goes_on : Bool) :
    Type 0 where
  pub goes : Goes layout p passes old new s
  pub is : goes_on ≡ cond (is_empty goes.places) false true

-- ---- orders of outcomes

-- an outcome with the orders of another too
pub record FoundWith (f g h : Found) : Type 0 where
  pub replies : h.replies ≡ f.replies
  pub pages : h.pages ≡ f.pages
  pub orders : h.orders.count ≡ min (f.orders.count + g.orders.count) (2 ^ 128 - 1)

-- an outcome is added to others: its orders to those of the same outcome, or else, if there is none, the outcome itself
pub data AddsFound (old : List Found) (f : Found) (new : List Found) : Type 0 where
  joined : (place : ℕ) (there both : Found) → slice_get old place ≡ Some there → IsSame there f
      → FoundWith there f both → new ≡ slice_set old place both → AddsFound old f new
  pushed : ¬ Has old (map vec_items f.replies.items) f.pages.items → new ≡ old ++ f ∷ [] → AddsFound old f new

-- the outcome of the state, with its orders, is added to others
pub record AddsEnd (layout : Layout) (p : Program) (s : State) (old new : List Found) : Type 0 where
  pub found : Found
  pub adds : AddsFound old found new
  pub replies : map vec_items found.replies.items ≡ map (λ d. d.replies) (lanes_of s)
  pub pages : found.pages.items ≡ pages_asked layout p s.order.items
  pub orders : found.orders ≡ s.orders

-- the orders that are counted of these replies and pages
abbrev pub number_in : (replies : List (List ℕ)) → (pages : List ℕ) → List Found → ℕ
number_in replies pages found = sum_by (λ (f : Found). cond (pointwise bytes_eq replies (map vec_items f.replies.items)
    && bytes_eq pages f.pages.items) f.orders.count 0) found

-- ---- a level and the next one

-- a state, and the places to which its steps lead
pub record Went : Type 0 where
  pub state : State
  pub places : List ℕ

-- 1 if no step leads on from the state, and it has these replies and pages; 0 otherwise
abbrev pub ended : Layout → Program → (replies : List (List ℕ)) → (pages : List ℕ) → Went → ℕ
ended layout p replies pages g = cond (is_empty g.places
    && (pointwise bytes_eq replies (map (λ d. d.replies) (lanes_of g.state))
    && bytes_eq pages (pages_asked layout p g.state.order.items))) 1 0

-- The steps of these states lead to places of the next level, where their orders are counted. Those of states from
-- which none leads on are counted by their outcomes
pub record Advances (layout : Layout) (p : Program) (states next : List State) (old new : List Found) : Type 0 where
  pub went : List Went
  pub are : map (λ g. g.state) went ≡ states
  pub lands : (k : ℕ) (g : Went) → slice_get went k ≡ Some g → (steps : List ℕ) → StepsTo layout p steps g.state
      → Pairs (λ n place. IsAt layout p next (steps ++ n ∷ []) place) (may_follow layout p steps) g.places
  pub weighs : (w : ℕ → ℕ) → capped (weigh (counts_of next) w)
      ≡ capped (sum_by (λ g. g.state.orders.count * sum_by w g.places) went)
  pub founds : (replies : List (List ℕ)) (pages : List ℕ) → capped (number_in replies pages new)
      ≡ capped (number_in replies pages old
      + sum_by (λ g. g.state.orders.count * ended layout p replies pages g) went)
