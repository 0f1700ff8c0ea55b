-- Receipts, as a run of calls sees them: what one contains, and what a pass knows after it heeded one.
use Rattle.std.specs.Prelude.{◌≡◌, ℕ, List, ◌∷◌, ◌++◌, ◌⊎◌, map, length, Option, Some}
use Rattle.sh_table.specs.declared.view.Heard.{Heard}
use Rattle.sh_table.specs.declared.view.Order.{Order}
use Rattle.sh_table.specs.Seats.{Heap}
use Rattle.sh_table.specs.Tales.{Before}
use Rattle.sh_table.specs.Views.{Each, done_by, heard_in}
use Rattle.sh_table.specs.declared.view.Told.{Told}
use Rattle.sh_pass.specs.Passes.{Caller}
use Rattle.sh_pass.specs.Receipts.{heeded}
use Rattle.sh_shard.specs.Shards.{shard_heeded}
use Rattle.sh_member.specs.declared.member.Side.TheVariants.{Pass, Shard}
use Rattle.sh_member.specs.Sides.{SeenSide}
use Rattle.script_calls.specs.OwnParts.{steps_of, taken_in}
use Rattle.script_calls.specs.Parts.{PassPart, SeenPass, HasWholeTale, Becomes, tale_told}

-- which heap it is of, and what it contains
pub record SeenReceipt : Type 0 where
  pub heap : Option Heap
  pub heard : List Heard
  pub orders : List Order

abbrev pub seen_of_receipt : Caller → SeenReceipt
seen_of_receipt r = record { heap = Some r.heap; heard = heard_in r.view; orders = r.view.orders }

-- all that the pass with this number and this part made and did
abbrev pub part_heard : ℕ → PassPart → Heard
part_heard pass v = record { pass = pass; log = v.log; steps = steps_of v.stands }

-- the same of the passes that it took in
abbrev pub taken_heard : SeenPass → List Heard
taken_heard s = map (λ (t : Told). done_by t.pass t.own) (taken_in s.part.stands)

-- a receipt of this pass
abbrev pub receipt_seen : SeenPass → SeenReceipt
receipt_seen s = record {
  heap = s.heap;
  heard = part_heard s.pass s.part ∷ (taken_heard s ++ map (λ (o : Order). o.heard) s.orders);
  orders = s.orders;
}

-- what was heard happens before all that the pass does from now on
abbrev pub order_seen : SeenPass → Heard → Order
order_seen s h = record {
  heard = h;
  carrier = s.pass;
  length = length s.part.log;
  steps = steps_of s.part.stands;
}

abbrev pub orders_heard : SeenPass → SeenReceipt → List Order
orders_heard s r = s.orders ++ (r.orders ++ map (order_seen s) r.heard)

-- the pass, or the owner of the shard, heeded the receipt, and is otherwise as it was
abbrev pub SideHeeded : Caller → SeenSide → SeenSide → Type 0
SideHeeded r (Pass v) new = new ≡ Pass (heeded v r)
SideHeeded r (Shard o) new = new ≡ Shard (shard_heeded o r)

-- the part, once its pass heeded the receipt; nothing changed otherwise
pub record PartHeeds (r : Caller) (v w : PassPart) : Type 0 where
  pub is : Becomes v w
  pub stands : SideHeeded r v.stands w.stands

-- it is as it was, or its pass heeded a receipt, as it does if the lines run one after the other
abbrev pub MayHeed : PassPart → PassPart → Type 0
MayHeed v w = (w ≡ v) ⊎ ((r : Caller) × PartHeeds r v w)

-- the same twice: as its last line began or once all lines ended, and again before it left its shard
abbrev pub HeedsTwice : PassPart → PassPart → Type 0
HeedsTwice v w = (mid : PassPart) × MayHeed v mid × MayHeed mid w

-- the pass, once it heeded the receipt
pub record Heeds (r : Caller) (s t : SeenPass) : Type 0 where
  pub is : t ≡ record s { part = t.part; orders = orders_heard s (seen_of_receipt r) }
  pub part : PartHeeds r s.part t.part

-- one legal history has the entries of each pass that this one speaks for, and keeps its orders
pub record HasOrderedTale (s : SeenPass) : Type 0 where
  pub whole : HasWholeTale s.terms (tale_told s)
  pub orders : Each (Before whole.history) s.orders
