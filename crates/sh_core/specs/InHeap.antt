-- What a part names lies within the heap.
use Rattle.std.specs.Prelude.{◌||◌, ◌-◌, true, ℕ, ◌≡◌, ◌+◌, ◌^◌, ◌<◌, ◌≤◌, List, Some, slice_get}
use Rattle.sh_key.specs.Layout.{Layout}
use Rattle.sh_shape.specs.Shape.{Numbers}
use Rattle.sh_shape.specs.Places.{IsPlace, slot_places, payload_words}
use Rattle.sh_shape.specs.declared.places.Place.{Place}
use Rattle.sh_shape.specs.declared.places.Place.TheVariants.{Class, Head, PageLink, State, Link, Length, Payload, Owner}
use Rattle.sh_shape.specs.declared.places.Place.TheVariants.{Bell}
use Rattle.sh_slots.specs.declared.hand.Hand.{Hand}
use Rattle.sh_slots.specs.declared.hand.Hand.TheVariants.{Removing, Leaving, Finishing, ToPut, Tying, Ringing}
use Rattle.sh_slots.specs.declared.hand.Hand.TheVariants.{RingTying, Filling, Looking}
use Rattle.sh_slots.specs.declared.hand.KeyRef.{KeyRef}
use Rattle.sh_slots.specs.declared.hand.SlotRef.{SlotRef}
use Rattle.sh_step.specs.declared.action.Action.{Action}
use Rattle.sh_step.specs.declared.body.Body.{Body}
use Rattle.sh_step.specs.Conditions.{Named, SlotWithin}
use Rattle.sh_step.specs.Plans.{Plan, plan_of, heap_pages}
use Rattle.sh_step.specs.Moves.{row}
use Rattle.sh_step.specs.Rows.{Row}
use Rattle.sh_shape.specs.Classes.{class_count, width, slots}
use Rattle.sh_word.specs.Fields.{fields_of}
use Rattle.sh_step.specs.declared.operation.Operation.{Operation}
use Rattle.sh_step.specs.declared.operation.Operation.TheVariants.{FetchAdd, FetchSub}
use Rattle.sh_slots.specs.declared.reply.Reply.TheVariants.{Insert}
use Rattle.sh_step.specs.Operations.{StoresWord, HasRoom}
use Rattle.sh_core.specs.Words.{read}
use Rattle.sh_core.specs.Worlds.{World}
use Rattle.sh_core.specs.Lists.{times}

-- The key in the hand names a slot of the heap. A slot or page in the hand is one of the heap. A generation that the
-- hand ends is at most the last one
abbrev pub HandWithin : Plan → Hand → Type 0
HandWithin plan (Removing k) = (x : KeyRef) × Named plan k x
HandWithin plan (Leaving x) = SlotWithin plan x
HandWithin plan (Finishing x g s) = SlotWithin plan x × (g ≤ plan.keys.gen_max)
HandWithin plan (ToPut x) = SlotWithin plan x
HandWithin plan (Tying x l r) = SlotWithin plan x
HandWithin plan (Ringing q) = q < heap_pages plan
HandWithin plan (RingTying q l) = q < heap_pages plan
HandWithin plan (Filling x v i) = SlotWithin plan x
HandWithin plan (Looking k x s) = Named plan k x
HandWithin plan _ = Unit {0}

-- the hand, the pass's own shard and its armed pages are within the heap
pub record InHeap (plan : Plan) (p : Body) : Type 0 where
  pub hand : HandWithin plan p.hand
  pub owned : (n : ℕ) → p.owned ≡ Some n → n < plan.shards
  pub armed : (q : ℕ) → 0 < times q p.armed → q < heap_pages plan

abbrev pub AllInHeap : Plan → World → Type 0
AllInHeap plan w = (a : ℕ) (p : Body) → slice_get w.parts a ≡ Some p → InHeap plan p

-- the heap has this place
abbrev pub HasPlace : Plan → Place → Type 0
HasPlace plan (Class q) = q < heap_pages plan
HasPlace plan (Head q) = q < heap_pages plan
HasPlace plan (PageLink q) = q < heap_pages plan
HasPlace plan (State q s) = (q < heap_pages plan) × (s < slot_places)
HasPlace plan (Link q s) = (q < heap_pages plan) × (s < slot_places)
HasPlace plan (Length q s) = (q < heap_pages plan) × (s < slot_places)
HasPlace plan (Payload q i) = (q < heap_pages plan) × (i < payload_words)
HasPlace plan (Owner n) = n < plan.shards
HasPlace plan (Bell n) = n < plan.shards

-- each place that the plan of a heap has is a place of its shape
abbrev pub PlansHaveShapesPlaces : Type 0
PlansHaveShapesPlaces = (layout : Layout) (shape : Numbers) (q : Place) → HasPlace (plan_of layout shape) q
    → IsPlace shape q

-- each action whose condition holds steps on a place of the heap
abbrev pub StepsWithin : Plan → World → Type 0
StepsWithin plan w = (a : ℕ) (p : Body) (x : Action) (r : Row) → slice_get w.parts a ≡ Some p → row plan p x ≡ Some r
    → HasPlace plan r.place

-- the operation keeps a state word's count from 0 to below 2^30
abbrev pub CountFits : Operation → ℕ → Type 0
CountFits (FetchAdd m) n = (fields_of n).count + m < 2 ^ 30
CountFits (FetchSub m) n = m ≤ (fields_of n).count
CountFits _ n = Unit {0}

-- then the word has room for the operation
abbrev pub CountsLeaveRoom : Type 0
CountsLeaveRoom = (o : Operation) (n : ℕ) → n < 2 ^ 64 → CountFits o n → HasRoom o n

abbrev pub CountsFit : Plan → World → Type 0
CountsFit plan w = (a : ℕ) (p : Body) (x : Action) (r : Row) → slice_get w.parts a ≡ Some p → row plan p x ≡ Some r
    → CountFits r.operation (read w.words r.place)

-- each enabled action that swaps or exchanges a word stores a number that fits a word
abbrev pub StoresWords : Plan → World → Type 0
StoresWords plan w = (a : ℕ) (p : Body) (x : Action) (r : Row) → slice_get w.parts a ≡ Some p → row plan p x ≡ Some r
    → StoresWord r.operation

-- a key that an enabled action would issue is one of the layout: it names the slot, in the generation that it is in
abbrev pub IssuesKeys : Plan → World → Type 0
IssuesKeys plan w = (a : ℕ) (p : Body) (x : Action) (r : Row) (k : ℕ) (v : List ℕ) (q s : ℕ) → slice_get w.parts a
    ≡ Some p → row plan p x ≡ Some r → r.reply (read w.words r.place) ≡ Some (Insert k v) → r.place ≡ State q s
    → plan.keys.unpack k ≡ Some (record {
      page = q;
      slot = s;
      generation = (fields_of (read w.words r.place)).generation;
    })

-- bells and the links of pages name pages of the heap
abbrev pub BellsAreSmall : Plan → World → Type 0
BellsAreSmall plan w = ((n : ℕ) → w.words.bell_at n ≤ heap_pages plan)
    × ((q : ℕ) → w.words.page_link_at q ≤ heap_pages plan + 1)

-- a slot with a value is one of its page's class, and the value is no longer than the class allows
abbrev pub ValuesFit : Plan → World → Type 0
ValuesFit plan w = (x : SlotRef) → ((fields_of (w.words.state_at x.page x.slot)).present ||
    (fields_of (w.words.state_at x.page x.slot)).marked) ≡ true
    → (0 < w.words.class_at x.page) × (w.words.class_at x.page ≤ class_count) × (x.page < heap_pages plan)
    × (x.slot < slots (w.words.class_at x.page - 1)) × (w.words.length_at x.page x.slot ≤ width
    (w.words.class_at x.page - 1))
