-- What a pass knows of the keys that it holds.
use Rattle.std.specs.Prelude.{ℕ, ◌≡◌, ◌<◌, List, Some, slice_get}
use Rattle.sh_shape.specs.Places.{slot_places}
use Rattle.sh_slots.specs.declared.hand.KeyRef.{KeyRef}
use Rattle.sh_core.specs.Words.{Words}
use Rattle.sh_step.specs.Plans.{Plan, heap_pages}
use Rattle.sh_step.specs.Collections.{noted}
use Rattle.sh_step.specs.declared.body.Body.{Body}
use Rattle.sh_core.specs.Lists.{times}
use Rattle.sh_core.specs.Worlds.{World}

-- each held key names a place of the shape; what was read of a key is about a held one, and true
pub record ReadsAgree (plan : Plan) (class : ℕ → ℕ) (length : ℕ → ℕ → ℕ) (holds : List ℕ)
    (class_words lengths : List (ℕ × ℕ)) : Type 0 where
  pub named : (k : ℕ) → 0 < times k holds → (n : KeyRef) × (plan.keys.unpack k ≡ Some n) × (n.page < heap_pages plan)
      × (n.slot < slot_places)
  pub classed : (k c : ℕ) → noted k class_words ≡ Some c → (0 < times k holds)
      × ((n : KeyRef) → plan.keys.unpack k ≡ Some n → class n.page ≡ c)
  pub measured : (k c : ℕ) → noted k lengths ≡ Some c → (0 < times k holds)
      × ((n : KeyRef) → plan.keys.unpack k ≡ Some n → length n.page n.slot ≡ c)

abbrev pub ReadsAgreeOf : Plan → Words → Body → Type 0
ReadsAgreeOf plan w p = ReadsAgree plan w.class_at w.length_at p.holds p.class_words p.lengths

abbrev pub AllReadsAgree : Plan → World → Type 0
AllReadsAgree plan w = (a : ℕ) (p : Body) → slice_get w.parts a ≡ Some p → ReadsAgreeOf plan w.words p
