-- The words of a heap as an atomic map: each event does at most one operation of the map, and does it at once.
use Rattle.std.specs.Prelude.{ℕ, ◌≡◌, ◌==◌, false, cond, List, [], ◌∷◌, ◌++◌, Option, Some, None, IsSome}
use Rattle.sh_history.specs.declared.entry.Entry.{Entry}
use Rattle.sh_history.specs.declared.entry.Entry.TheVariants.{Insert, Got, Gone, Crowded, Removed, Released, Seen}
use Rattle.sh_key.specs.Layout.{Layout, IsLayout}
use Rattle.sh_shape.specs.Shape.{Numbers, IsShape, Fits}
use Rattle.sh_history.specs.History.{value_of, is_removed, present_value}
use Rattle.sh_slots.specs.declared.hand.KeyRef.{KeyRef}
use Rattle.sh_slots.specs.Slots.{live_at, past_at}
use Rattle.sh_step.specs.declared.action.Event.{Event}
use Rattle.sh_step.specs.Plans.{Plan, plan_of}
use Rattle.sh_core.specs.declared.outcome.Outcome.{Outcome}
use Rattle.sh_core.specs.declared.outcome.Outcome.TheVariants.{Moved, Replied, Skipped}
use Rattle.sh_core.specs.Outcomes.{outcome_of}
use Rattle.sh_core.specs.Words.{Words}
use Rattle.sh_core.specs.Worlds.{run, value_at}

-- the value of a key, from its slot's words only: those words, if the state word is live in the key's generation
abbrev pub map_of : Plan → Words → ℕ → Option (List ℕ)
map_of plan w k = elim (plan.keys.unpack k) [
  | Some n ↦ cond (live_at n.generation (w.state_at n.page n.slot)) (Some (value_at w n.page n.slot)) None
  | None ↦ None
]

-- what an entry says of the map that its operation found
abbrev pub Finds : (ℕ → Option (List ℕ)) → Entry → Type 0
Finds m (Insert a k v) = m k ≡ None
Finds m (Got a k v) = m k ≡ Some v
Finds m (Gone a k) = m k ≡ None
Finds m (Crowded a k) = IsSome (m k)
Finds m (Removed a k) = IsSome (m k)
Finds m (Released a k) = Unit {0}
Finds m (Seen a k v) = m k ≡ Some v

-- the map after an entry: an insert puts its value under the key, a removal removes it, any other leaves the map as is
abbrev pub made_by : (ℕ → Option (List ℕ)) → Entry → ℕ → Option (List ℕ)
made_by m (Insert a k v) j = cond (k == j) (Some v) (m j)
made_by m (Removed a k) j = cond (k == j) None (m j)
made_by m _ j = m j

-- an event with a reply is that one operation; any other event leaves the map as it was
abbrev pub IsOneOperation : (before after : ℕ → Option (List ℕ)) → Outcome → Type 0
IsOneOperation before after (Replied t) = Finds before t × ((k : ℕ) → after k ≡ made_by before t k)
IsOneOperation before after Moved = (k : ℕ) → after k ≡ before k
IsOneOperation before after Skipped = (k : ℕ) → after k ≡ before k

-- A state word says what became of a key of its slot and this generation: if it is live, the key is in the map, with
-- the slot's words; if it is past, the key was removed; otherwise the key was never issued
pub record StateTells (log : List Entry) (k g word : ℕ) (now : List ℕ) : Type 0 where
  pub there : present_value log k ≡ cond (live_at g word) (Some now) None
  pub removed : is_removed log k ≡ past_at g word
  pub unissued : live_at g word ≡ false → past_at g word ≡ false → value_of log k ≡ None

-- each state word that is found after a list of events says so of each key of its slot
abbrev pub StatesTell : Type 0
StatesTell = (layout : Layout) (shape : Numbers) → IsLayout layout → IsShape shape → Fits layout shape
    → (es : List Event) (k : ℕ) (x : KeyRef) → let plan = plan_of layout shape in let w = run plan es in
    plan.keys.unpack k ≡ Some x
    → StateTells w.log k x.generation (w.words.state_at x.page x.slot) (value_at w.words x.page x.slot)

-- a heap opens as the empty map
abbrev pub OpensEmpty : Type 0
OpensEmpty = (layout : Layout) (shape : Numbers) (k : ℕ)
    → map_of (plan_of layout shape) (run (plan_of layout shape) []).words k ≡ None

-- each event after each list of events is at most one operation of the map
abbrev pub EventsAreOperations : Type 0
EventsAreOperations = (layout : Layout) (shape : Numbers) → IsLayout layout → IsShape shape → Fits layout shape
    → (es : List Event) (e : Event) → let plan = plan_of layout shape in
    IsOneOperation (map_of plan (run plan es).words) (map_of plan (run plan (es ++ e ∷ [])).words)
    (outcome_of plan (run plan es) e)
