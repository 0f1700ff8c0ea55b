-- A removed key ends once.
use Rattle.std.specs.Prelude.{ℕ, ◌+◌, ◌≡◌, ◌<◌, ◌≤◌, true, List, ◌∷◌, [], ◌++◌, Some}
use Rattle.sh_step.specs.declared.body.Body.{Body}
use Rattle.sh_step.specs.Collections.{total, if1}
use Rattle.sh_step.specs.declared.action.Event.{Event}
use Rattle.sh_core.specs.KeyEnds.{Ending, ending_of, is_end_of}
use Rattle.sh_slots.specs.declared.hand.KeyRef.{KeyRef}
use Rattle.sh_key.specs.Layout.{Layout, IsLayout}
use Rattle.sh_core.specs.Lists.{times}
use Rattle.sh_step.specs.Plans.{Plan, plan_of}
use Rattle.sh_step.specs.Rows.{is_read}
use Rattle.sh_shape.specs.Shape.{Numbers, IsShape, Fits}
use Rattle.sh_slots.specs.Slots.{slot_ref_of, value_seen}
use Rattle.sh_core.specs.Tallies.{visits, finishing}
use Rattle.sh_core.specs.Worlds.{World, run, step, open_world}
use Rattle.sh_history.specs.History.{value_of, is_removed}
use Rattle.sh_laws.specs.Objects.{holds_of}

-- how often the events of a run that goes on from w end the key of this name
unfoldable pub ends_from : Plan → World → List Event → KeyRef → ℕ
ends_from plan w [] n = 0
ends_from plan w (e ∷ es) n = if1 (is_end_of n (ending_of w e)) + ends_from plan (step plan w e) es n

-- how often the key ended in a run
abbrev pub times_ended : Plan → List Event → KeyRef → ℕ
times_ended plan es n = ends_from plan (open_world plan) es n

-- a key ended at most once, and only if it was removed
abbrev pub EndsOnce : Type 0
EndsOnce = (layout : Layout) (shape : Numbers) → IsLayout layout → IsShape shape → Fits layout shape
    → (es : List Event) (k : ℕ) (n : KeyRef) → let plan = plan_of layout shape in plan.keys.unpack k ≡ Some n
    → (times_ended plan es n ≤ 1) × (0 < times_ended plan es n → is_removed (run plan es).log k ≡ true)

-- no pass has a hold on the key, and none is on its slot for a moment or is to end it
pub record IsLeft (plan : Plan) (w : World) (k : ℕ) (n : KeyRef) : Type 0 where
  pub unheld : total (λ (p : Body). times k p.holds) w.parts ≡ 0
  pub unvisited : total (visits plan (slot_ref_of n)) w.parts ≡ 0
  pub unfinished : total (finishing (slot_ref_of n) n.generation) w.parts ≡ 0

-- then it ended, if it was removed
abbrev pub LeftHasEnded : Type 0
LeftHasEnded = (layout : Layout) (shape : Numbers) → IsLayout layout → IsShape shape → Fits layout shape
    → (es : List Event) (k : ℕ) (n : KeyRef) → let plan = plan_of layout shape in plan.keys.unpack k ≡ Some n
    → is_removed (run plan es).log k ≡ true → IsLeft plan (run plan es) k n → times_ended plan es n ≡ 1

-- An event that ends a key after these events: the key was removed, and what was read of it in full is its value. No
-- pass has a hold on it, and none has one later
pub record EndIsLast (plan : Plan) (es : List Event) (e : Event) (t : Ending) : Type 0 where
  pub key : ℕ
  pub named : plan.keys.unpack key ≡ Some t.name
  pub removed : is_removed (run plan es).log key ≡ true
  pub value : List ℕ
  pub issued : value_of (run plan es).log key ≡ Some value
  pub words : is_read t.name t.sight ≡ true → value_seen t.sight ≡ value
  pub unheld : (a : ℕ) → holds_of (run plan es) a key ≡ 0
  pub later : (more : List Event) (a : ℕ) → holds_of (run plan (es ++ e ∷ more)) a key ≡ 0

abbrev pub EndsAreLast : Type 0
EndsAreLast = (layout : Layout) (shape : Numbers) → IsLayout layout → IsShape shape → Fits layout shape
    → (es : List Event) (e : Event) (t : Ending) → let plan = plan_of layout shape in ending_of (run plan es) e ≡ Some t
    → EndIsLast plan es e t
