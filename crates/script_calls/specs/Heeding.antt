-- Passes that hear of one another before they leave their shards and meet.
use Rattle.std.specs.Prelude.{◌≡◌, ℕ, ◌<◌, ◌≤◌, List, [], length, take, slice_get, Option, Some, None}
use Rattle.std.specs.List.{Contains}
use Rattle.sh_table.specs.declared.view.Heard.{Heard}
use Rattle.sh_table.specs.Seats.{Heap}
use Rattle.sh_pass.specs.Passes.{Caller}
use Rattle.script_calls.specs.Parts.{SeenPass}
use Rattle.script_calls.specs.Receipts.{MayHeed, seen_of_receipt, order_seen, part_heard}
use Rattle.script_calls.specs.Alone.{IsLastOf}
use Rattle.script_calls.specs.Meeting.{KeepsOrders}

-- the pass heard of all that the receipt contains, if there is one
abbrev pub CoversReceipt : Option Caller → SeenPass → SeenPass → Type 0
CoversReceipt None s t = Unit {0}
CoversReceipt (Some r) s t = ((h : Heard) → Contains (seen_of_receipt r).heard h → Contains t.orders (order_seen s h))
    × KeepsOrders (seen_of_receipt r).orders t.orders

-- the same, and the pass may have heeded one receipt, but is otherwise as it was
pub record HeedsInTurn (last : Option Caller) (s t : SeenPass) : Type 0 where
  pub is : t ≡ record s { part = t.part; orders = t.orders }
  pub heeds : MayHeed s.part t.part
  pub keeps : KeepsOrders s.orders t.orders
  pub covers : CoversReceipt last s t

-- each of these passes heard of the receipt
pub record AllHeedInTurn (last : Option Caller) (ss ts : List SeenPass) : Type 0 where
  pub all : length ts ≡ length ss
  pub each : (p : ℕ) (s t : SeenPass) → slice_get ss p ≡ Some s → slice_get ts p ≡ Some t → HeedsInTurn last s t

-- ---- how they are found

-- the receipt contains what the first one contains, if there is one
abbrev pub KnowsReceipt : Option Caller → Caller → Type 0
KnowsReceipt None r = Unit {0}
KnowsReceipt (Some q) r = ((h : Heard) → Contains (seen_of_receipt q).heard h → Contains (seen_of_receipt r).heard h)
    × KeepsOrders (seen_of_receipt q).orders (seen_of_receipt r).orders

-- the same of the last receipt, which contains the entries of these passes too
abbrev pub LastKnows : Option Caller → List SeenPass → Option Caller → Type 0
LastKnows first ss None = (first ≡ None) × (ss ≡ [])
LastKnows first ss (Some r) = KnowsReceipt first r
    × ((p : ℕ) (s : SeenPass) → slice_get ss p ≡ Some s → Contains (seen_of_receipt r).heard (part_heard s.pass s.part))

-- the first n of these passes have heard, and the others are as they were
pub record HeardSoFar (heap : Option Heap) (first : Option Caller) (ss : List SeenPass) (n : ℕ) (ts : List SeenPass)
    (last : Option Caller) : Type 0 where
  pub all : length ts ≡ length ss
  pub done : (p : ℕ) (s t : SeenPass) → p < n → slice_get ss p ≡ Some s → slice_get ts p ≡ Some t
      → HeedsInTurn first s t
  pub left : (p : ℕ) (s t : SeenPass) → n ≤ p → slice_get ss p ≡ Some s → slice_get ts p ≡ Some t → t ≡ s
  pub of : IsLastOf heap last
  pub knows : LastKnows first (take n ss) last
