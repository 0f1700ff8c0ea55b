-- The world as the code keeps it, with one list of words, and the world that it represents.
use Rattle.std.specs.Prelude.{ℕ, ◌≡◌, ◌≢◌, ◌-◌, ◌*◌, ◌<◌, ◌≤◌, List, [], ◌⊎◌, length, get_or, slice_get, slice_set}
use Rattle.std.specs.Prelude.{Option, Some, IsSome, Result, Ok, Err}
use Rattle.sh_history.specs.declared.entry.Entry.{Entry}
use Rattle.sh_key.specs.Layout.{Layout, IsLayout}
use Rattle.sh_shape.specs.declared.places.Place.{Place}
use Rattle.sh_shape.specs.declared.places.Place.TheVariants.{Class, State, Length, Payload}
use Rattle.sh_shape.specs.Classes.{class_count, width, slots}
use Rattle.sh_shape.specs.Shape.{Numbers, IsShape, Fits}
use Rattle.sh_shape.specs.Places.{IsPlace, number, words_of, all_pages}
use Rattle.sh_slots.specs.declared.hand.SlotRef.{SlotRef}
use Rattle.sh_slots.specs.declared.reply.Reply.TheVariants.{Got}
use Rattle.sh_step.specs.Operations.{operate}
use Rattle.sh_step.specs.Parts.{ListGrows}
use Rattle.sh_step.specs.Moves.{row}
use Rattle.sh_step.specs.Rows.{Row}
use Rattle.sh_step.specs.Fits.{RowFits}
use Rattle.sh_step.specs.declared.action.Event.{Event}
use Rattle.sh_step.specs.declared.body.Body.{Body}
use Rattle.sh_step.specs.Plans.{plan_of}
use Rattle.sh_value.specs.declared.refusal.Refusal.{Refusal}
use Rattle.sh_value.specs.declared.refusal.Refusal.TheVariants.{BadShape, Memory}
use Rattle.sh_core.specs.declared.outcome.Outcome.{Outcome}
use Rattle.sh_core.specs.declared.outcome.Outcome.TheVariants.{Skipped}
use Rattle.sh_core.specs.Words.{Words, read}
use Rattle.sh_core.specs.Worlds.{World, step, run, open_world, words_from, entry_of, joined}
use Rattle.sh_core.specs.Outcomes.{outcome_of, done}
use Rattle.sh_core.specs.InHeap.{CountFits}

-- what contracts see of a world
pub record KeptWorld : Type 0 where
  pub shape : Numbers
  pub words : List ℕ
  pub parts : List Body
  pub log : List Entry

-- each place of the shape has its word in the list, at the place's number
pub record HoldsWords (shape : Numbers) (list : List ℕ) (words : Words) : Type 0 where
  pub count : length list ≡ words_of shape
  pub at : (p : Place) → IsPlace shape p → get_or list (number shape p) 0 ≡ read words p

-- the word of the list at a place
abbrev pub word_at : Numbers → List ℕ → Place → ℕ
word_at shape list place = get_or list (number shape place) 0

-- The value in a slot's words. `SlotHasValue` says that there is one: the slot is one of its page's class, and the
-- value is no longer than the class allows
abbrev pub value_in : Numbers → List ℕ → SlotRef → List ℕ
value_in shape list x = words_from (λ i. word_at shape list (Payload x.page i))
    (x.slot * width (word_at shape list (Class x.page) - 1)) (word_at shape list (Length x.page x.slot))

pub record SlotHasValue (shape : Numbers) (list : List ℕ) (x : SlotRef) : Type 0 where
  pub page : x.page < all_pages shape
  pub has_class : 0 < word_at shape list (Class x.page)
  pub is_class : word_at shape list (Class x.page) ≤ class_count
  pub slot : x.slot < slots (word_at shape list (Class x.page) - 1)
  pub length : word_at shape list (Length x.page x.slot) ≤ width (word_at shape list (Class x.page) - 1)

-- the same for the slot of a state word
abbrev pub value_kept : Numbers → List ℕ → Place → List ℕ
value_kept shape list (State q s) = value_in shape list (record { page = q; slot = s })
value_kept shape list _ = []

abbrev pub KeepsValue : Numbers → List ℕ → Place → Type 0
KeepsValue shape list (State q s) = SlotHasValue shape list (record { page = q; slot = s })
KeepsValue shape list _ = ⊥

-- a row may be done on the list: its place is one of the shape, a slot's count has room, and if the row gets a value
-- there is one
pub record IsReady (layout : Layout) (shape : Numbers) (list : List ℕ) (r : Row) : Type 0 where
  pub count : length list ≡ words_of shape
  pub row : RowFits shape (plan_of layout shape) r (word_at shape list r.place)
  pub counts : CountFits r.operation (word_at shape list r.place)
  pub gets : (k : ℕ) → r.reply (word_at shape list r.place) ≡ Some (Got k) → KeepsValue shape list r.place

-- if the row finds the word n it asks for memory: it replies, so an entry joins the log, or a list of the part grows
abbrev pub AsksMemory : Row → Body → ℕ → Type 0
AsksMemory r p n = IsSome (r.reply n) ⊎ ListGrows p (r.part n)

-- the event has a row that asks for memory
abbrev pub NeedsMemory : Layout → KeptWorld → Event → Type 0
NeedsMemory layout k e = (p : Body) × (r : Row) × (slice_get k.parts e.pass ≡ Some p)
    × (row (plan_of layout k.shape) p e.action ≡ Some r) × AsksMemory r p (word_at k.shape k.words r.place)

-- what joins the log if a pass does the row
abbrev pub new_entry : Numbers → List ℕ → ℕ → Row → Option Entry
new_entry shape list a r = entry_of a (value_kept shape list r.place) (r.reply (word_at shape list r.place))

-- what the row leaves of the list, the pass's part and the log, and the outcome
pub record DoesRow (shape : Numbers) (a : ℕ) (r : Row) (list : List ℕ) (entries : List Entry) (came : Outcome)
    (list' : List ℕ) (part' : Body) (entries' : List Entry) : Type 0 where
  pub words : list' ≡ slice_set list (number shape r.place) (operate r.operation (word_at shape list r.place))
  pub part : part' ≡ r.part (word_at shape list r.place)
  pub log : entries' ≡ joined entries (new_entry shape list a r)
  pub outcome : came ≡ done (new_entry shape list a r)

-- the kept world represents this world
pub record Represents (k : KeptWorld) (w : World) : Type 0 where
  pub words : HoldsWords k.shape k.words w.words
  pub parts : k.parts ≡ w.parts
  pub log : k.log ≡ w.log

-- some list of events leads to it
pub record FromEvents (layout : Layout) (k : KeptWorld) : Type 0 where
  pub is_layout : IsLayout layout
  pub is_shape : IsShape k.shape
  pub fits : Fits layout k.shape
  pub events : List Event
  pub stands : Represents k (run (plan_of layout k.shape) events)

-- what an event leaves, and its outcome
pub record StepsWorld (layout : Layout) (before : KeptWorld) (e : Event) (outcome : Outcome) (after : KeptWorld) : Type
    0 where
  pub shape : after.shape ≡ before.shape
  pub world : (w : World) → Represents before w → Represents after (step (plan_of layout before.shape) w e)
  pub outcome_is : (w : World) → Represents before w → outcome ≡ outcome_of (plan_of layout before.shape) w e

-- the event is not skipped
abbrev pub IsDone : Layout → KeptWorld → Event → Type 0
IsDone layout k e = (w : World) → Represents k w → outcome_of (plan_of layout k.shape) w e ≢ Skipped

-- a heap of this shape is opened, unless the shape does not fit the layout or memory is refused
abbrev pub Opens : Layout → Numbers → Result KeptWorld Refusal → Type 0
Opens layout shape (Ok k) = Fits layout shape × (k.shape ≡ shape) × Represents k (open_world (plan_of layout shape))
Opens layout shape (Err BadShape) = ¬ Fits layout shape
Opens layout shape (Err Memory) = Fits layout shape
Opens layout shape (Err _) = ⊥

-- a heap of this shape, which fits the layout, opens with these words
pub record OpensWith (layout : Layout) (shape : Numbers) (list : List ℕ) : Type 0 where
  pub is_layout : IsLayout layout
  pub is_shape : IsShape shape
  pub fits : Fits layout shape
  pub words : HoldsWords shape list (open_world (plan_of layout shape)).words

-- why a heap of this shape is not opened: the shape does not fit the layout, or memory is refused
abbrev pub RefusesToOpen : Layout → Numbers → Refusal → Type 0
RefusesToOpen layout shape BadShape = ¬ Fits layout shape
RefusesToOpen layout shape Memory = Fits layout shape
RefusesToOpen layout shape _ = ⊥

-- a heap of this shape after these events, unless the shape does not fit the layout or memory is refused
abbrev pub RunsWorld : Layout → Numbers → List Event → Result KeptWorld Refusal → Type 0
RunsWorld layout shape es (Ok k) = Fits layout shape × (k.shape ≡ shape) × Represents k (run (plan_of layout shape) es)
RunsWorld layout shape es (Err BadShape) = ¬ Fits layout shape
RunsWorld layout shape es (Err Memory) = Fits layout shape
RunsWorld layout shape es (Err _) = ⊥
