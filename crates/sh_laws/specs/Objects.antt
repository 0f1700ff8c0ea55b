-- The whole object that callers share: values under keys, keys that were issued, and holds.
use Rattle.std.specs.Prelude.{ℕ, ◌+◌, ◌-◌, ◌≡◌, ◌<◌, ◌==◌, Bool, false, ◌&&◌, ◌||◌, List, [], ◌∷◌, ◌++◌, Option}
use Rattle.std.specs.Prelude.{Some, None, IsSome, slice_get}
use Rattle.sh_core.specs.AtomicMap.{map_of, made_by}
use Rattle.sh_step.specs.Collections.{if1}
use Rattle.sh_history.specs.declared.entry.Entry.{Entry}
use Rattle.sh_history.specs.declared.entry.Entry.TheVariants.{Insert, Got, Gone, Crowded, Removed, Released, Seen}
use Rattle.sh_step.specs.declared.action.Event.{Event}
use Rattle.sh_key.specs.Layout.{Layout, IsLayout}
use Rattle.sh_core.specs.Lists.{times}
use Rattle.sh_core.specs.declared.outcome.Outcome.{Outcome}
use Rattle.sh_core.specs.declared.outcome.Outcome.TheVariants.{Moved, Replied, Skipped}
use Rattle.sh_core.specs.Outcomes.{outcome_of}
use Rattle.sh_step.specs.Plans.{Plan, plan_of}
use Rattle.sh_shape.specs.Shape.{Numbers, IsShape, Fits}
use Rattle.sh_slots.specs.Slots.{live_at, past_at}
use Rattle.sh_core.specs.Worlds.{World, run, value_at}
use Rattle.sh_laws.specs.Garbage.{sum_below}

-- the value of each key that is in the map, whether a key was issued, and how many holds each pass has on a key
pub record Object : Type 0 where
  pub map : ℕ → Option (List ℕ)
  pub issued : ℕ → Bool
  pub holds : ℕ → ℕ → ℕ

-- how many holds these passes have on a key together
abbrev pub holds_together : (passes : ℕ) → Object → ℕ → ℕ
holds_together passes o k = sum_below (λ a. o.holds a k) passes

-- what the operation of an entry asks of the object
abbrev pub MayDo : (passes guard_max : ℕ) → Object → Entry → Type 0
MayDo passes guard_max o (Insert a k v) = o.issued k ≡ false
MayDo passes guard_max o (Got a k v) = o.map k ≡ Some v
MayDo passes guard_max o (Gone a k) = o.map k ≡ None
MayDo passes guard_max o (Crowded a k) = IsSome (o.map k) × (guard_max < holds_together passes o k + passes)
MayDo passes guard_max o (Removed a k) = IsSome (o.map k)
MayDo passes guard_max o (Released a k) = 0 < o.holds a k
MayDo passes guard_max o (Seen a k v) = o.map k ≡ Some v

-- an insert issues its key; a get gives its pass a hold on the key, and a release takes one away
abbrev pub issued_after : Object → Entry → ℕ → Bool
issued_after o (Insert a k v) j = (k == j) || o.issued j
issued_after o _ j = o.issued j

abbrev pub holds_after : Object → Entry → ℕ → ℕ → ℕ
holds_after o (Got b j v) a k = o.holds a k + if1 ((b == a) && (j == k))
holds_after o (Released b j) a k = o.holds a k - if1 ((b == a) && (j == k))
holds_after o _ a k = o.holds a k

-- the object after an entry
pub record IsDone (before after : Object) (t : Entry) : Type 0 where
  pub map : (k : ℕ) → after.map k ≡ made_by before.map t k
  pub issued : (k : ℕ) → after.issued k ≡ issued_after before t k
  pub holds : (a k : ℕ) → after.holds a k ≡ holds_after before t a k

pub record IsSame (before after : Object) : Type 0 where
  pub map : (k : ℕ) → after.map k ≡ before.map k
  pub issued : (k : ℕ) → after.issued k ≡ before.issued k
  pub holds : (a k : ℕ) → after.holds a k ≡ before.holds a k

-- an event with a reply is that one operation; any other event leaves the object as it was
abbrev pub IsObjectOperation : (passes guard_max : ℕ) → (before after : Object) → Outcome → Type 0
IsObjectOperation passes guard_max before after (Replied t) = MayDo passes guard_max before t × IsDone before after t
IsObjectOperation passes guard_max before after Moved = IsSame before after
IsObjectOperation passes guard_max before after Skipped = IsSame before after

-- ---- the object that a world is

-- a key was issued if the state word of its slot is live in the key's generation, or past it
abbrev pub is_issued : Plan → World → ℕ → Bool
is_issued plan w k = elim (plan.keys.unpack k) [
  | Some n ↦ live_at n.generation (w.words.state_at n.page n.slot) ||
      past_at n.generation (w.words.state_at n.page n.slot)
  | None ↦ false
]

abbrev pub holds_of : World → ℕ → ℕ → ℕ
holds_of w a k = elim (slice_get w.parts a) [ Some p ↦ times k p.holds | None ↦ 0 ]

-- by the words, and by the holds of each pass's part: no log
abbrev pub object_of : Plan → World → Object
object_of plan w = record { map = map_of plan w.words; issued = is_issued plan w; holds = holds_of w }

-- a heap opens with no value, no key and no hold
abbrev pub empty_object : Object
empty_object = record { map = λ k. None; issued = λ k. false; holds = λ a k. 0 }

abbrev pub OpensAsEmpty : Type 0
OpensAsEmpty = (layout : Layout) (shape : Numbers) → IsLayout layout → IsShape shape → Fits layout shape
    → IsSame empty_object (object_of (plan_of layout shape) (run (plan_of layout shape) []))

-- each event after each list of events is at most one operation of the object
abbrev pub ObjectIsAtomic : Type 0
ObjectIsAtomic = (layout : Layout) (shape : Numbers) → IsLayout layout → IsShape shape → Fits layout shape
    → (es : List Event) (e : Event) → let plan = plan_of layout shape in
    IsObjectOperation plan.passes plan.keys.guard_max (object_of plan (run plan es))
    (object_of plan (run plan (es ++ e ∷ []))) (outcome_of plan (run plan es) e)

-- the value in a key's slot, whether or not the key was removed
abbrev pub value_in : Plan → World → ℕ → List ℕ
value_in plan w k = elim (plan.keys.unpack k) [ Some n ↦ value_at w.words n.page n.slot | None ↦ [] ]

-- a held key keeps its value, also after it was removed: at two moments at which passes hold the key, it is the same
abbrev pub HeldValuesStay : Type 0
HeldValuesStay = (layout : Layout) (shape : Numbers) → IsLayout layout → IsShape shape → Fits layout shape
    → (es more : List Event) (a b k : ℕ) → let plan = plan_of layout shape in 0 < holds_of (run plan es) a k
    → 0 < holds_of (run plan (es ++ more)) b k → value_in plan (run plan (es ++ more)) k ≡ value_in plan (run plan es) k
