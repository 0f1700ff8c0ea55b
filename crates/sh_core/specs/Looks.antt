-- Looks: what a pass has read of a key that it does not hold.
use Rattle.std.specs.Prelude.{ℕ, ◌≡◌, false, List, Some, length, slice_get, take}
use Rattle.sh_history.specs.declared.entry.Entry.{Entry}
use Rattle.sh_history.specs.History.{value_of, is_removed}
use Rattle.sh_slots.specs.declared.hand.Hand.{Hand}
use Rattle.sh_slots.specs.declared.hand.Hand.TheVariants.{Looking}
use Rattle.sh_slots.specs.declared.hand.KeyRef.{KeyRef}
use Rattle.sh_slots.specs.declared.hand.Sight.{Sight}
use Rattle.sh_slots.specs.declared.hand.Sight.TheVariants.{Bare, Classed, Measured}
use Rattle.sh_step.specs.declared.body.Body.{Body}
use Rattle.sh_step.specs.Conditions.{Named}
use Rattle.sh_step.specs.Plans.{Plan}
use Rattle.sh_core.specs.Worlds.{World}

-- what was read is of this value, in a page of this class word
abbrev pub Sees : (class : ℕ) → (value : List ℕ) → Sight → Type 0
Sees class v Bare = Unit {0}
Sees class v (Classed c) = c ≡ class
Sees class v (Measured c m u) = (c ≡ class) × (m ≡ length v) × (u ≡ take (length u) v)

-- A key that a pass looks at names a slot of the heap, and was issued. Unless it was removed meanwhile, what the look
-- has read is of the key's value
pub record LookIsTrue (plan : Plan) (class : ℕ → ℕ) (log : List Entry) (k : ℕ) (x : KeyRef) (s : Sight) : Type 0 where
  pub named : Named plan k x
  pub value : List ℕ
  pub issued : value_of log k ≡ Some value
  pub sees : is_removed log k ≡ false → Sees (class x.page) value s

abbrev pub HandSees : Plan → (ℕ → ℕ) → List Entry → Hand → Type 0
HandSees plan class log (Looking k x s) = LookIsTrue plan class log k x s
HandSees plan class log _ = Unit {0}

abbrev pub LooksAreTrue : Plan → World → Type 0
LooksAreTrue plan w = (a : ℕ) (p : Body) → slice_get w.parts a ≡ Some p → HandSees plan w.words.class_at w.log p.hand
