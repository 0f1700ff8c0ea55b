-- Passes that leave their shards, one after the other, each with a receipt of the pass before. If one is refused, all
-- end in a bundle, which shows one run of the core that leads to the parts of all.
use Rattle.std.specs.Prelude.{◌≡◌, ◌≢◌, ◌⊎◌, ℕ, ◌<◌, ◌≤◌, List, [], length, slice_get, Option, Some, None, Err}
use Rattle.std.specs.Prelude.{IfSome, IfNone}
use Rattle.std.specs.List.{All, Contains}
use Rattle.sh_value.specs.declared.refusal.Refusal.TheVariants as refusal
use Rattle.sh_table.specs.declared.view.Heard.{Heard}
use Rattle.sh_table.specs.declared.view.Order.{Order}
use Rattle.sh_table.specs.Seats.{Heap}
use Rattle.sh_table.specs.Together.{LeadsTogether}
use Rattle.sh_table.specs.declared.view.View.{View}
use Rattle.sh_pass.specs.Passes.{Caller}
use Rattle.sh_member.specs.Sides.{SideLeaves}
use Rattle.script_calls.specs.OwnParts.{EndsWith, PartIsTrue, own_part, shape_in, steps_of}
use Rattle.script_calls.specs.Parts.{RunTerms, PassPart, SeenPass, SamePass}
use Rattle.script_calls.specs.Receipts.{MayHeed, seen_of_receipt}
use Rattle.script_calls.specs.Alone.{IsLastOf}
use Rattle.script_calls.specs.Heeding.{AllHeedInTurn}
use Rattle.script_calls.specs.Meeting.{AllOfHeap, HasEnded, HasMet, KeepsOrders, tales_told, orders_of}

-- ---- passes that could leave

-- the pass may have heeded a receipt, and then left its shard, if it owned one; it is otherwise as it was
pub record LeavesInTurn (s t : SeenPass) : Type 0 where
  pub is : t ≡ record s { part = t.part; orders = t.orders }
  pub log : t.part.log ≡ s.part.log
  pub none : t.part.shard ≡ None
  pub keeps : KeepsOrders s.orders t.orders
  pub begins : PassPart
  pub heeds : MayHeed s.part begins
  pub ends : EndsWith begins.stands (own_part t.part.stands)

-- each of these passes did so
pub record AllLeaveInTurn (ss ts : List SeenPass) : Type 0 where
  pub all : length ts ≡ length ss
  pub each : (p : ℕ) (s t : SeenPass) → slice_get ss p ≡ Some s → slice_get ts p ≡ Some t → LeavesInTurn s t

-- ---- a pass that was refused

-- it had heard of all steps of the other pass, when its own were those that it has
abbrev pub HeardStepsOf : SeenPass → SeenPass → Type 0
HeardStepsOf s t = (o : Order) × Contains s.orders o × (o.carrier ≡ s.pass) × (o.steps ≡ steps_of s.part.stands)
    × (o.heard.pass ≡ t.pass) × (steps_of t.part.stands ≤ o.heard.steps)

-- all that the pass knows is true, nothing is begun, and its heap has the shape that it knows
abbrev pub PartStands : RunTerms → SeenPass → Type 0
PartStands terms s = PartIsTrue terms.layout s.part × (shape_in s.part.stands ≡ terms.shape)

-- One of these passes was refused when it left its shard, as the contract of leaving says. Before it left it had heard
-- of all steps of all of them.
pub record IsRefused (terms : RunTerms) (ts : List SeenPass) : Type 0 where
  pub place : ℕ
  pub begins : SeenPass
  pub now : SeenPass
  pub at : slice_get ts place ≡ Some now
  pub is : SamePass begins now
  pub stood : PartStands terms begins
  pub stands : PartStands terms now
  pub waits : SideLeaves begins.part.stands (Err refusal.Waiting) now.part.stands
  pub own : HeardStepsOf begins begins
  pub others : (q : ℕ) (t : SeenPass) → q ≢ place → slice_get ts q ≡ Some t → HeardStepsOf begins t

-- the bundle has the part of this pass, and what it heard
pub record IsBundledIn (terms : RunTerms) (b : View) (t : SeenPass) : Type 0 where
  pub stands : PartStands terms t
  pub own : Contains b.told (record { pass = t.pass; own = own_part t.part.stands })
  pub orders : KeepsOrders t.orders b.orders

-- these passes ended in one bundle: one run of the core leads to the parts of all
pub record AreTogether (terms : RunTerms) (ts : List SeenPass) : Type 0 where
  pub bundle : View
  pub shape : bundle.shape ≡ terms.shape
  pub leads : (ts ≡ []) ⊎ LeadsTogether terms.layout bundle
  pub parts : All (IsBundledIn terms bundle) ts

-- they have the heaps and the numbers of those
abbrev pub IsAlike : SeenPass → SeenPass → Type 0
IsAlike s t = (t.heap ≡ s.heap) × (t.terms ≡ s.terms) × (t.pass ≡ s.pass)

pub record AreAlike (ss ts : List SeenPass) : Type 0 where
  pub all : length ts ≡ length ss
  pub each : (p : ℕ) (s t : SeenPass) → slice_get ss p ≡ Some s → slice_get ts p ≡ Some t → IsAlike s t

-- one of the passes was refused, and then all ended in one bundle
pub record AreStuck (terms : RunTerms) (ss : List SeenPass) : Type 0 where
  pub ends : List SeenPass
  pub alike : AreAlike ss ends
  pub refused : IsRefused terms ends
  pub together : AreTogether terms ends

-- ---- all of it

-- Each pass heard of those that left before, and left its shard. If all could leave, they met, and one of them carries
-- the tale of all. Otherwise they are stuck, or there is no pass.
pub record LeaveAndMeet (heap : Option Heap) (terms : RunTerms) (ss : List SeenPass) (carrier : Option SeenPass) :
    Type 0 where
  pub met : IfSome carrier (λ c. HasMet heap terms c (tales_told ss) (orders_of ss))
  pub ended : IfSome carrier (λ c. All (HasEnded c) ss)
  pub stays : IfNone carrier (AreStuck terms ss ⊎ (ss ≡ []))

-- The same, after all passes heard of one another.
pub record EndInTurn (heap : Option Heap) (terms : RunTerms) (last : Option Caller) (ss : List SeenPass)
    (carrier : Option SeenPass) : Type 0 where
  pub heard : List SeenPass
  pub hear : AllHeedInTurn last ss heard
  pub leave : LeaveAndMeet heap terms heard carrier

-- ---- how it is found

-- the last receipt contains all steps of these passes
abbrev pub KnowsSteps : List SeenPass → Option Caller → Type 0
KnowsSteps ts None = ts ≡ []
KnowsSteps ts (Some r) = (q : ℕ) (t : SeenPass) → slice_get ts q ≡ Some t → (h : Heard)
    × Contains (seen_of_receipt r).heard h × (h.pass ≡ t.pass) × (steps_of t.part.stands ≤ h.steps)

-- the first n of these passes have left, and the others are as they were
pub record LeftSoFar (heap : Option Heap) (ss : List SeenPass) (n : ℕ) (ts : List SeenPass) (last : Option Caller) :
    Type 0 where
  pub all : length ts ≡ length ss
  pub done : (p : ℕ) (s t : SeenPass) → p < n → slice_get ss p ≡ Some s → slice_get ts p ≡ Some t → LeavesInTurn s t
  pub left : (p : ℕ) (s t : SeenPass) → n ≤ p → slice_get ss p ≡ Some s → slice_get ts p ≡ Some t → t ≡ s
  pub of : IsLastOf heap last
  pub knows : KnowsSteps ts last

-- a bundle for all passes of this heap, which has none yet
abbrev pub IsBundleFor : Option Heap → RunTerms → Caller → Type 0
IsBundleFor heap terms b = (Some b.heap ≡ heap) × (b.view.shape ≡ terms.shape) × (b.view.told ≡ [])

-- these passes ended in this bundle, and all of its passes are of this heap
pub record BoundSoFar (heap : Option Heap) (terms : RunTerms) (ts : List SeenPass) (b : Caller) : Type 0 where
  pub heap_is : Some b.heap ≡ heap
  pub shape : b.view.shape ≡ terms.shape
  pub leads : (ts ≡ []) ⊎ LeadsTogether terms.layout b.view
  pub parts : All (IsBundledIn terms b.view) ts

-- a pass was refused, and there is a bundle for all of them
pub record WaitsInTurn (heap : Option Heap) (terms : RunTerms) (ss ts : List SeenPass) (b : Caller) : Type 0 where
  pub alike : AreAlike ss ts
  pub refused : IsRefused terms ts
  pub bundle : IsBundleFor heap terms b
