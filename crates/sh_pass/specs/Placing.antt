-- The place that a key names, as far as the number of pages of a shard decides it.
use Rattle.std.specs.Prelude.{◌≡◌, ◌≢◌, ℕ, Some, None}
use Rattle.sh_key.specs.Layout.{Layout}
use Rattle.sh_shape.specs.Shape.{Numbers}
use Rattle.sh_shape.specs.Places.{pages_of}
use Rattle.sh_slots.specs.declared.hand.KeyRef.{KeyRef}
use Rattle.sh_step.specs.Moves.{place_named}
use Rattle.sh_step.specs.Plans.{plan_of}

-- if a shard has that number of pages, the key names this, if it names anything
abbrev pub IsPlacedBy : Layout → (pages key : ℕ) → KeyRef → Type 0
IsPlacedBy layout pages key name = (s : Numbers) → pages_of s ≡ pages → place_named (plan_of layout s) key ≢ None
    → place_named (plan_of layout s) key ≡ Some name
