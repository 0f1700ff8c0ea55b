-- What a run of calls sees of each pass: its heap and number, its own part, the passes that it took in, what it heard.
use Rattle.std.specs.Prelude.{◌≡◌, ℕ, zero, suc, ◌==◌, nat_lt, not, Bool, false, List, [], ◌∷◌, ◌++◌}
use Rattle.std.specs.Prelude.{Option, Some, None}
use Rattle.std.specs.List.{AllZip}
use Rattle.sh_key.specs.Layout.{Layout, unpacked}
use Rattle.sh_shape.specs.Shape.{Numbers}
use Rattle.sh_history.specs.declared.entry.Entry.{Entry}
use Rattle.sh_history.specs.declared.log.LogEntry.{LogEntry}
use Rattle.sh_history.specs.History.{Legal}
use Rattle.sh_history.specs.Log.{Agrees, entries_of}
use Rattle.sh_step.specs.Moves.{has_place}
use Rattle.sh_table.specs.declared.view.Order.{Order}
use Rattle.sh_table.specs.Seats.{Heap}
use Rattle.sh_table.specs.Views.{newly}
use Rattle.sh_member.specs.declared.member.Side.TheVariants.{Pass, Shard}
use Rattle.sh_member.specs.Sides.{SeenSide}

-- what stays the same over a run
pub record RunTerms : Type 0 where
  pub layout : Layout
  pub shape : Numbers

-- its entries, in order, the shard that it owns, and itself between calls, as its own contracts see it
pub record PassPart : Type 0 where
  pub log : List LogEntry
  pub shard : Option ℕ
  pub stands : SeenSide

-- the shard that it owns, if it owns one
abbrev pub shard_owned : SeenSide → Option ℕ
shard_owned (Pass v) = None
shard_owned (Shard o) = Some o.pages.shard

-- no heap
abbrev pub nowhere : Heap
nowhere = record {
  table = record { words = 0; slots = 0; views_name = 0; atom = 0; block = 0; offset = 0; slot_names = [] };
  shape = record { shards = 0; segments = 0; passes = 0 };
}

-- a pass of the heap that has done nothing yet
abbrev pub new_side : Option Heap → ℕ → SeenSide
new_side (Some heap) pass = Pass (record { heap = heap; view = newly heap.shape pass })
new_side None pass = Pass (record { heap = nowhere; view = newly nowhere.shape pass })

-- the part of a pass that has done nothing yet
abbrev pub new_part : Option Heap → ℕ → PassPart
new_part heap pass = record { log = []; shard = None; stands = new_side heap pass }

-- a pass, and its entries
pub record PassTold : Type 0 where
  pub pass : ℕ
  pub log : List LogEntry

-- which heap it is of, its number, its part, the passes that it took in, and what it heard of others
pub record SeenPass : Type 0 where
  pub heap : Option Heap
  pub terms : RunTerms
  pub pass : ℕ
  pub part : PassPart
  pub told : List PassTold
  pub orders : List Order

-- the pass has done nothing yet
abbrev pub new_pass : Option Heap → RunTerms → ℕ → SeenPass
new_pass heap terms pass = record {
  heap = heap;
  terms = terms;
  pass = pass;
  part = new_part heap pass;
  told = [];
  orders = [];
}

-- passes 0 to n - 1 of a heap
abbrev pub new_passes : Option Heap → RunTerms → ℕ → List SeenPass
new_passes heap terms zero = []
new_passes heap terms (suc n) = new_passes heap terms n ++ new_pass heap terms n ∷ []

-- a call changes nothing except the part
abbrev pub SamePass : SeenPass → SeenPass → Type 0
SamePass v w = w ≡ record v { part = w.part }

-- all passes that it speaks of, with their entries
abbrev pub tale_told : SeenPass → List PassTold
tale_told s = record { pass = s.pass; log = s.part.log } ∷ s.told

-- in this history the entries of each pass of the tale are its log, in order
abbrev pub HasLogOf : List Entry → PassTold → Type 0
HasLogOf history t = AllZip Agrees t.log (entries_of (λ p. p == t.pass) history)

abbrev pub HasAllLogs : List Entry → List PassTold → Type 0
HasAllLogs history [] = Unit {0}
HasAllLogs history (t ∷ ts) = HasLogOf history t × HasAllLogs history ts

abbrev pub told_pass : PassTold → ℕ
told_pass t = t.pass

-- 0 to n - 1
abbrev pub passes_below : ℕ → List ℕ
passes_below zero = []
passes_below (suc n) = passes_below n ++ n ∷ []

-- there is one legal history that has all logs of the tale, and no entries of passes that the heap does not have
pub record HasWholeTale (terms : RunTerms) (tale : List PassTold) : Type 0 where
  pub history : List Entry
  pub legal : Legal terms.shape.passes terms.layout.guard_max history
  pub has : HasAllLogs history tale
  pub only : entries_of (λ p. not (nat_lt p terms.shape.passes)) history ≡ []

-- ---- which refusal is returned

-- the number is a key of the layout, and its place is one of the shape
abbrev pub is_placed_key : Layout → Numbers → ℕ → Bool
is_placed_key layout shape key = elim (unpacked layout key) [ Some p ↦ has_place shape p | None ↦ false ]

-- the key is one of the shard
abbrev pub is_key_of_shard : Layout → Option ℕ → ℕ → Bool
is_key_of_shard layout None key = false
is_key_of_shard layout (Some shard) key = elim (unpacked layout key) [ Some p ↦ p.shard == shard | None ↦ false ]

-- of a heap of this shape
abbrev pub heap_terms : Layout → Numbers → RunTerms
heap_terms layout shape = record { layout = layout; shape = shape }

-- of no heap
abbrev pub no_terms : RunTerms
no_terms = heap_terms (record { shard_bits = 0; page_bits = 0; gen_max = 0; guard_max = 0 })
    (record { shards = 0; segments = 0; passes = 0 })

abbrev pub with_entry : PassPart → LogEntry → PassPart
with_entry v e = record v { log = v.log ++ e ∷ [] }

-- it is this, except for what its own contracts see of it, which the call's contract describes
abbrev pub Becomes : PassPart → PassPart → Type 0
Becomes u w = w ≡ record u { stands = w.stands }
