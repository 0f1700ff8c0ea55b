-- Passes that meet: one of them carries the tale of all.
use Rattle.std.specs.Prelude.{◌≡◌, ℕ, List, [], ◌∷◌, ◌++◌, Option, Some, None}
use Rattle.std.specs.List.{Contains}
use Rattle.script_calls.specs.OwnParts.{EndsWith, own_part, taken_in}
use Rattle.script_calls.specs.Parts.{RunTerms, PassPart, SeenPass, PassTold, HasWholeTale, tale_told}
use Rattle.script_calls.specs.Receipts.{MayHeed, HeedsTwice}
use Rattle.sh_table.specs.declared.view.Own.{Own}
use Rattle.sh_pass.specs.Passes.{Caller}
use Rattle.sh_table.specs.declared.view.Told.{Told}
use Rattle.sh_table.specs.declared.view.Order.{Order}
use Rattle.sh_table.specs.Seats.{Heap}
use Rattle.sh_table.specs.Tales.{Before}
use Rattle.sh_table.specs.Views.{Each}

-- the pass that carries the tale, if there is one yet
abbrev pub CarriesTale : Option Heap → RunTerms → Option SeenPass → List PassTold → Type 0
CarriesTale heap terms None ts = ts ≡ []
CarriesTale heap terms (Some s) ts = (s.heap ≡ heap) × (s.terms ≡ terms) × (tale_told s ≡ ts)

-- each of these orders is one of those
abbrev pub KeepsOrders : List Order → List Order → Type 0
KeepsOrders os ps = (o : Order) → Contains os o → Contains ps o

-- the pass that carries these orders, if there is one yet
abbrev pub CarriesOrders : Option SeenPass → List Order → Type 0
CarriesOrders None os = os ≡ []
CarriesOrders (Some s) os = KeepsOrders os s.orders

-- the result of meeting a carrier, if there is one
abbrev pub MeetsCarrier : Option SeenPass → SeenPass → SeenPass → Type 0
MeetsCarrier None s r = r ≡ s
MeetsCarrier (Some c) s r = (r.heap ≡ c.heap) × (r.terms ≡ c.terms) × (tale_told r ≡ tale_told c ++ tale_told s)
    × KeepsOrders (c.orders ++ s.orders) r.orders

-- it owns no shard
abbrev pub OwnsNone : Option SeenPass → Type 0
OwnsNone None = Unit {0}
OwnsNone (Some s) = s.part.shard ≡ None

abbrev pub IsOfHeap : Option Heap → Option SeenPass → Type 0
IsOfHeap heap None = Unit {0}
IsOfHeap heap (Some s) = s.heap ≡ heap

-- This pass owns no shard and carries this tale and these orders. The tale is whole: one legal history has exactly the
-- entries that the pass speaks for, and keeps the orders.
pub record HasMet (heap : Option Heap) (terms : RunTerms) (s : SeenPass) (tale : List PassTold) (orders : List Order) :
    Type 0 where
  pub carries : CarriesTale heap terms (Some s) tale
  pub heard : CarriesOrders (Some s) orders
  pub none : OwnsNone (Some s)
  pub whole : HasWholeTale terms tale
  pub kept : Each (Before whole.history) s.orders

-- all that these passes speak for
abbrev pub tales_told : List SeenPass → List PassTold
tales_told [] = []
tales_told (s ∷ ss) = tale_told s ++ tales_told ss

-- all that these passes heard of
abbrev pub orders_of : List SeenPass → List Order
orders_of [] = []
orders_of (s ∷ ss) = s.orders ++ orders_of ss

-- each is a pass of the heap
abbrev pub AllOfHeap : Option Heap → RunTerms → List SeenPass → Type 0
AllOfHeap heap terms [] = Unit {0}
AllOfHeap heap terms (s ∷ ss) = (s.heap ≡ heap) × (s.terms ≡ terms) × AllOfHeap heap terms ss

-- ---- own parts

-- the own parts of all passes that this one speaks for
abbrev pub parts_carried : SeenPass → List Told
parts_carried s = record { pass = s.pass; own = own_part s.part.stands } ∷ taken_in s.part.stands

-- the bundle that a pass opens is of its heap, and has no pass yet
abbrev pub OpensFor : SeenPass → Caller → Type 0
OpensFor s b = (Some b.heap ≡ s.heap) × (b.view.shape ≡ s.terms.shape) × (b.view.told ≡ [])

-- the bundle gets the own parts of all passes that this one speaks for, and what it heard
abbrev pub BindsSide : SeenPass → Caller → Caller → Type 0
BindsSide s b c = (c.heap ≡ b.heap) × (c.view.shape ≡ b.view.shape) × (c.view.told ≡ b.view.told ++ parts_carried s)
    × (c.view.orders ≡ b.view.orders ++ s.orders)

-- the result of meeting a carrier, if there is one, carries the own parts of both
abbrev pub JoinsParts : Option SeenPass → SeenPass → SeenPass → Type 0
JoinsParts None s r = r ≡ s
JoinsParts (Some c) s r = parts_carried r ≡ parts_carried c ++ parts_carried s

-- the pass with this number and this part ended with an own part that is among these
abbrev pub EndsAmong : List Told → (pass : ℕ) → PassPart → Type 0
EndsAmong parts pass part = (own : Own) × EndsWith part.stands own
    × Contains parts (record { pass = pass; own = own })

-- the same, and it may have heeded two receipts before
abbrev pub EndedAmong : List Told → (pass : ℕ) → PassPart → Type 0
EndedAmong parts pass part = (begins : PassPart) × HeedsTwice part begins × EndsAmong parts pass begins

-- the carrier carries an own part with which this pass ended, which may have heeded a receipt before
abbrev pub HasEnded : (carrier : SeenPass) → SeenPass → Type 0
HasEnded carrier s = (begins : PassPart) × MayHeed s.part begins × EndsAmong (parts_carried carrier) s.pass begins

-- the carrier carries the own part of this pass
abbrev pub CarriesOwn : (carrier : SeenPass) → SeenPass → Type 0
CarriesOwn carrier s = Contains (parts_carried carrier) (record { pass = s.pass; own = own_part s.part.stands })

-- the same if there is a carrier; there is one once a pass has met it
abbrev pub CarriesEnd : Option SeenPass → SeenPass → Type 0
CarriesEnd None s = ⊥
CarriesEnd (Some c) s = CarriesOwn c s

-- it owns no shard
abbrev pub IsShardless : SeenPass → Type 0
IsShardless s = s.part.shard ≡ None
